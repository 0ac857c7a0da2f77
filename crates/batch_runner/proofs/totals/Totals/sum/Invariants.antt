use Rattle.std.proofs.Common.{◌≡◌, List, take}
use Rattle.std.specs.List.{AllZip}
use Rattle.std.specs.Prelude.{flat_map}
use Rattle.trace_share.specs.declared.outcome.Outcome.{Outcome}
use Rattle.batch_runner.specs.Totals.{IsTotalOf, totals_of}
use Rattle.batch_runner.proofs.totals.Totals.sum.Given as goal

abbrev pub invariant-loop-more : goal.invariant-loop-more
invariant-loop-more l =
    (logs : List (List Outcome)) → AllZip IsTotalOf l.each logs →
    l.totals ≡ totals_of (flat_map (λ log. log) (take l.more-index logs))
