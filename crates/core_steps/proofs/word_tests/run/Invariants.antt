-- The table has a seat.
use Rattle.std.proofs.Common.{◌<◌}
use Rattle.table_model.specs.Setup.{seats_of}
use Rattle.core_steps.proofs.word_tests.run.Given as goal

abbrev pub invariant-loop : goal.invariant-loop
invariant-loop l = 0 < seats_of l.core.setup
