-- A seat that is not idle may go on.
use Rattle.std.proofs.Common.{◌∙◌, sym}
use Rattle.core_steps.proofs.TestLemmas.{next_event}
use Rattle.core_steps.proofs.word_tests.go_on.Goals as goal

pub step-requires : goal.step-requires
step-requires c = record {
  event = next_event c.args.core.now c.args.seat c.requires (sym c.idle.ensures ∙ c.if-idle.false);
}
