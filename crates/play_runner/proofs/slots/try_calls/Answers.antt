-- The calls are tried one after the other.
use Rattle.play_runner.specs.Hands.{as_hand}
use Rattle.play_runner.proofs.Tries.{past_one}
use Rattle.play_runner.proofs.slots.try_calls.Goals as goal

pub loop-i-preserved : goal.loop-i-preserved
loop-i-preserved c = (
  past_one c.args.core.now c.args.seat (as_hand c.args.hand.now) c.requires.at c.requires.idle c.loop-i.core
      c.go_on.new.core c.loop-i.i _ c.in_ok-go_on.field-0 c.loop-i.invariant.0 c.loop-i-test.true
      c.in_ok-go_on.ensures.core c.in_ok-go_on.ensures.refused
      c.if-not-branch.false,
  c.in_ok-go_on.ensures.told,
)
