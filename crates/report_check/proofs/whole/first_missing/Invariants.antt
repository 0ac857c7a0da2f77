use Rattle.std.specs.List.Sorted.{IsNonDecreasing}
use Rattle.report_check.proofs.WholeLemmas.{AllThere}
use Rattle.report_check.proofs.whole.first_missing.Given as goal

abbrev pub invariant-loop-call : goal.invariant-loop-call
invariant-loop-call l = IsNonDecreasing l.sorted → AllThere l.calls l.sorted l.call-index
