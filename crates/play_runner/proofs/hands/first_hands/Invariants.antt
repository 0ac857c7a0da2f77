-- So many hands.
use Rattle.std.proofs.Common.{◌≡◌, map}
use Rattle.play_runner.specs.Hands.{as_hands, hands_of}
use Rattle.play_runner.proofs.hands.first_hands.Given as goal

abbrev pub invariant-loop-seat : goal.invariant-loop-seat
invariant-loop-seat l = as_hands l.hands.items ≡ hands_of l.seat (map (λ own. own.items) l.calls) l.stops
