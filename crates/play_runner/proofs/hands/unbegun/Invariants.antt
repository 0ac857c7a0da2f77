-- The calls of the hands so far, and of those after them.
use Rattle.std.proofs.Common.{◌≡◌, ◌+◌, drop}
use Rattle.play_runner.specs.Hands.{as_hands, unbegun_of}
use Rattle.play_runner.proofs.hands.unbegun.Given as goal

abbrev pub invariant-loop-hand : goal.invariant-loop-hand
invariant-loop-hand l =
    l.unbegun + unbegun_of (as_hands (drop l.hand-index l.hands)) ≡ unbegun_of (as_hands l.hands)
