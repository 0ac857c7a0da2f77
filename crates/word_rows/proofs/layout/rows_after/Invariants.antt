use Rattle.std.proofs.Common.{◌≡◌, take}
use Rattle.word_rows.specs.Shape.{by_kind, number_after}
use Rattle.word_rows.proofs.layout.rows_after.Given as goal

abbrev pub invariant-loop-range : goal.invariant-loop-range
invariant-loop-range l = l.after ≡ by_kind (number_after l.settings (take l.range-index l.ranges))
