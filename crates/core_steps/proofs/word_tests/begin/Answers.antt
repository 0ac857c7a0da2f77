-- The call may begin, and no other seat changes.
use Rattle.std.proofs.Common.{◌∙◌, Some, ap}
use Rattle.table_model.specs.Worlds.{seat_in}
use Rattle.core_steps.specs.Values.{CoreValue}
use Rattle.core_steps.proofs.TestLemmas.{first_event, other_stays}
use Rattle.core_steps.proofs.word_tests.begin.Goals as goal

pub step-requires : goal.step-requires
step-requires c = record {
  event = first_event c.args.core.now c.args.seat (1, c.args.call) c.requires.fresh c.requires.seat
      c.requires.limit c.requires.call;
}
