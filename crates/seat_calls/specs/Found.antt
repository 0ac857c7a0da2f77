-- The ops of all seats, found one after the other.
use Rattle.std.specs.Prelude.{◌≡◌, ◌<◌, ◌^◌, ℕ, List, IfSome, Option, length, All}
use Rattle.bucket_states.specs.declared.ops.Op.{Op}
use Rattle.bucket_states.specs.Values.{number_limit, IsUpdate}
use Rattle.table_model.specs.declared.rounds.Round.{Round}
use Rattle.table_model.specs.Fits.{Makes}
use Rattle.seat_calls.specs.Going.{Going, later}
use Rattle.seat_calls.specs.Tries.{AnyTry, after_ops}

-- an update that can be kept, whose number is below the limit
pub record IsSmallOp (op : Op) : Type 0 where
  pub update : IsUpdate op.call
  pub number : op.number < number_limit

-- so many steps later these ops are found
pub record HasFound (first now : Going) (round : Round) (attempt : AnyTry) (found : List (Option Op))
    (spent : ℕ) : Type 0 where
  pub goes : now ≡ later first spent (after_ops first.setup round attempt found)
  pub makes : 0 < length found → Makes first.setup (after_ops first.setup round attempt found)
  pub small : All (λ op. IfSome op IsSmallOp) found
