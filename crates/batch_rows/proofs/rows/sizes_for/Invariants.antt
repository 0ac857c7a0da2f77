use Rattle.std.proofs.Common.{◌≡◌, ◌^◌, take, map}
use Rattle.std.specs.Prelude.{All}
use Rattle.word_rows.specs.Shape.{AreBelow}
use Rattle.batch_rows.proofs.RowLemmas.{update_rows}
use Rattle.batch_rows.proofs.rows.sizes_for.Given as goal

abbrev pub invariant-loop-updates : goal.invariant-loop-updates
invariant-loop-updates l = record {
  rows : l.rows.items ≡ map (update_rows l.lesser l.found.splits) (take l.updates-index l.demand.updates.items);
  below : All (AreBelow (2 ^ 32)) l.rows.items;
}
