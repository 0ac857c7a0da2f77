-- The seats from this one on are still to take their slots.
use Rattle.play_runner.proofs.Coming.{IsOnRound}
use Rattle.play_runner.proofs.turns.Playing.run_round.Given as goal

abbrev pub invariant-loop-seat : goal.invariant-loop-seat
invariant-loop-seat l = IsOnRound l.fn.self l.self l.seats l.seat
