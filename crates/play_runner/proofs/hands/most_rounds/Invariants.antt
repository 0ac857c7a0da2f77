-- The slots of the hands so far, and of those after them.
use Rattle.std.proofs.Common.{◌≡◌, ◌+◌, drop}
use Rattle.play_runner.specs.Hands.{as_hands, rounds_of}
use Rattle.play_runner.proofs.hands.most_rounds.Given as goal

abbrev pub invariant-loop-hand : goal.invariant-loop-hand
invariant-loop-hand l =
    l.most + rounds_of l.settings (as_hands (drop l.hand-index l.hands)) ≡ rounds_of l.settings (as_hands l.hands)
