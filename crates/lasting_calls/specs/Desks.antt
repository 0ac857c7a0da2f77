-- What a caller has at hand: where the words of its table begin.
use Rattle.std.specs.Prelude.{◌≡◌}
use Rattle.lasting_calls.specs.Going.{Going}
use Rattle.lasting_calls.specs.declared.desk.Desk.{Desk}

-- the desk is that of the caller at its table
pub record IsOf (g : Going) (desk : Desk) : Type 0 where
  pub settings : g.plan.settings ≡ desk.settings
  pub hashing : g.plan.hashing ≡ desk.rules.hashing
  pub rows : g.plan.rows ≡ desk.rows
  pub seat : g.seat ≡ desk.seat
