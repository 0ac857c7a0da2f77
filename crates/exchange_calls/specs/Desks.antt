-- What a caller has at hand: the sizes of its table, and its own number.
use Rattle.std.specs.Prelude.{◌≡◌, ◌+◌, ◌*◌, ◌^◌, ◌≤◌}
use Rattle.exchange_calls.specs.Going.{Going}
use Rattle.exchange_calls.specs.declared.desk.Desk.{Desk}

-- the desk is that of the caller at its table
pub record IsOf (g : Going) (desk : Desk) : Type 0 where
  pub seats : g.plan.settings.seats ≡ desk.sizes.seats
  pub readers : g.plan.settings.readers ≡ desk.sizes.readers
  pub items : g.plan.settings.items ≡ desk.sizes.items
  pub depth : g.plan.settings.depth ≡ desk.sizes.depth
  pub spare : g.plan.spare ≡ desk.sizes.spare
  pub row_bits : g.plan.row_bits ≡ desk.sizes.row_bits
  pub hashing : g.plan.hashing ≡ desk.rules.hashing
  pub seat : g.seat ≡ desk.holder
  -- a bucket word has room for the numbers of all rows
  pub rows : g.plan.settings.seats * g.plan.spare + 2 ^ g.plan.settings.depth ≤ 2 ^ g.plan.row_bits
