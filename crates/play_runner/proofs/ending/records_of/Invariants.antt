use Rattle.std.proofs.Common.{◌≡◌, take}
use Rattle.table_model.specs.Closing.{records_there}
use Rattle.play_runner.proofs.ending.records_of.Given as goal

abbrev pub invariant-loop-record : goal.invariant-loop-record
invariant-loop-record l = records_there l.records.items ≡ take l.record-index l.log
