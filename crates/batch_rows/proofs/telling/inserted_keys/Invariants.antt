use Rattle.std.proofs.Common.{◌≡◌, length, take}
use Rattle.batch_rows.specs.BatchRows.{inserted_in_calls}
use Rattle.batch_rows.specs.Counts.{HaveSameKeys}
use Rattle.batch_rows.specs.declared.hints.TheConstants.{HINTS}
use Rattle.batch_rows.proofs.telling.inserted_keys.Given as goal

abbrev pub invariant-loop-asked : goal.invariant-loop-asked
invariant-loop-asked l = record {
  hints : length l.hints.items ≡ HINTS;
  same : HaveSameKeys l.inserted.items (inserted_in_calls (take l.asked-index l.calls));
}
