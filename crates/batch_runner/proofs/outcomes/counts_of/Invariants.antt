use Rattle.std.proofs.Common.{◌≡◌, List, length, map, take}
use Rattle.std.specs.List.{AllZip}
use Rattle.trace_share.specs.declared.outcome.Outcome.{Outcome}
use Rattle.trace_share.specs.Outcomes.{records_in}
use Rattle.batch_runner.specs.Totals.{IsTotalOf}
use Rattle.batch_runner.proofs.outcomes.counts_of.Given as goal

abbrev pub invariant-loop-totals : goal.invariant-loop-totals
invariant-loop-totals l =
    (logs : List (List Outcome)) → AllZip IsTotalOf l.each logs →
    l.counts.items ≡ map (λ log. length (records_in log)) (take l.totals-index logs)
