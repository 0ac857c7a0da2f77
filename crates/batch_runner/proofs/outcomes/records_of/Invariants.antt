use Rattle.std.proofs.Common.{◌≡◌, map, take}
use Rattle.table_model.specs.Closing.{read_in}
use Rattle.trace_share.specs.Outcomes.{records_in}
use Rattle.batch_runner.proofs.outcomes.records_of.Given as goal

abbrev pub invariant-loop-log : goal.invariant-loop-log
invariant-loop-log l = read_in l.records.items ≡ map (λ log. records_in log.items) (take l.log-index l.logs)
