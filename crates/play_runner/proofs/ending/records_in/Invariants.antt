use Rattle.std.proofs.Common.{◌≡◌, map, take}
use Rattle.table_model.specs.Closing.{read_in}
use Rattle.play_runner.proofs.ending.records_in.Given as goal

abbrev pub invariant-loop-log : goal.invariant-loop-log
invariant-loop-log l = read_in l.records.items ≡ map (λ log. log.items) (take l.log-index l.logs)
