use Rattle.std.specs.List.Sorted.{IsNonDecreasing}
use Rattle.report_check.specs.Whole.{AreInOrder}
use Rattle.report_check.proofs.WholeLemmas.{AllWell}
use Rattle.report_check.proofs.whole.first_stray.Given as goal

abbrev pub invariant-loop-place : goal.invariant-loop-place
invariant-loop-place l =
    AreInOrder l.calls l.pending → IsNonDecreasing l.sorted → AllWell l.calls l.pending l.sorted l.place
