use Rattle.std.proofs.Common.{map, take}
use Rattle.std.specs.List.{AllZip}
use Rattle.batch_runner.specs.Totals.{IsTotalOf}
use Rattle.batch_runner.proofs.totals.totals_in.Given as goal

abbrev pub invariant-loop-log : goal.invariant-loop-log
invariant-loop-log l = AllZip IsTotalOf l.each.items (map (λ log. log.items) (take l.log-index l.logs))
