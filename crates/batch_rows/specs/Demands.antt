-- What a batch asks of its table, told once by whoever reads its calls.
-- Source: this project's own.
use Rattle.std.specs.Prelude.{◌≡◌, ℕ, List, map}
use Rattle.plain_map.specs.declared.calls.Call.{Call}
use Rattle.batch_rows.specs.declared.demand.Demand.{Demand}
use Rattle.batch_rows.specs.BatchRows.{inserted_in_calls, updates_in_calls}
use Rattle.batch_rows.specs.Counts.{HaveSameKeys}

-- a batch of these calls, of which each seat makes its share, asks this: the keys are those of its inserts, and each
-- seat makes so many updates
pub record IsDemandOf (calls : List (ℕ × Call)) (shares : List (List (ℕ × Call))) (demand : Demand) : Type 0 where
  pub inserted : HaveSameKeys demand.inserted.items (inserted_in_calls calls)
  pub updates : demand.updates.items ≡ map updates_in_calls shares
