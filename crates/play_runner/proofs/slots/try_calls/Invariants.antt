-- The calls before this one were refused.
use Rattle.std.proofs.Common.{drop}
use Rattle.play_runner.specs.Hands.{as_hand}
use Rattle.play_runner.specs.Told.{AreTold}
use Rattle.play_runner.proofs.Tries.{AreTrying}
use Rattle.play_runner.proofs.slots.try_calls.Given as goal

abbrev pub invariant-loop-i : goal.invariant-loop-i
invariant-loop-i l =
    AreTrying l.fn.core l.core l.seat (as_hand l.hand) (drop l.i l.hand.calls.now) × AreTold l.core l.outcomes.items
