use Rattle.std.proofs.Common.{◌≡◌}
use Rattle.report_reading.specs.Kept.{with_number}
use Rattle.report_reading.proofs.KeptLemmas.{mapped_to}
use Rattle.report_reading.proofs.kept.number.Given as goal

abbrev pub invariant-loop-call : goal.invariant-loop-call
invariant-loop-call l = l.pending ≡ mapped_to (with_number l.counts) l.call-index l.initial.pending
