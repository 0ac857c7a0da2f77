use Rattle.std.proofs.Common.{◌≡◌, take}
use Rattle.table_model.specs.Closing.{records_there}
use Rattle.trace_share.specs.Outcomes.{records_in}
use Rattle.batch_runner.proofs.outcomes.answered_in.Given as goal

abbrev pub invariant-loop-outcome : goal.invariant-loop-outcome
invariant-loop-outcome l = records_there l.records.items ≡ records_in (take l.outcome-index l.log)
