-- What has to be known before the first turn.
use Rattle.std.specs.Prelude.{◌≡◌, ℕ, List}
use Rattle.plain_map.specs.declared.records.Record.{Record}
use Rattle.plain_map.specs.declared.records.Pending.{Pending}
use Rattle.word_rows.specs.Shape.{Shape}
use Rattle.history_order.specs.Told.{Told}
use Rattle.history_order.specs.Filled.{Filled, Begun}
use Rattle.history_order.specs.declared.tables.Found.{Found}
use Rattle.history_order.specs.declared.tables.Progress.{Progress}

-- a run tells of the table, and the tables say what it tells
pub record Begins (shape : Shape) (words : List ℕ) (logs : List (List Record)) (begun : List Pending) (found : Found)
    (progress : Progress) : Type 0 where
  pub told : Told words logs begun
  pub shape_is : told.setup.shape ≡ shape
  pub filled : Filled words logs begun told found
  pub begins : Begun words logs begun told progress
