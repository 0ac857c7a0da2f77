-- So many rounds are still to be made.
use Rattle.play_runner.proofs.Coming.{HasRoundsLeft}
use Rattle.play_runner.proofs.turns.Playing.run_rounds.Given as goal

abbrev pub invariant-loop : goal.invariant-loop
invariant-loop l = HasRoundsLeft l.fn.self l.self l.most l.counter
