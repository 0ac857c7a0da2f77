use Rattle.std.proofs.Common.{◌≡◌, take}
use Rattle.batch_runner.specs.Totals.{totals_of}
use Rattle.batch_runner.proofs.totals.totals_in_log.Given as goal

abbrev pub invariant-loop-outcome : goal.invariant-loop-outcome
invariant-loop-outcome l = l.totals ≡ totals_of (take l.outcome-index l.log)
