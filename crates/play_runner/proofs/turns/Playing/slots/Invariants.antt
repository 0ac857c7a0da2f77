-- So many slots are still to be taken.
use Rattle.play_runner.proofs.Coming.{HasSlotsLeft}
use Rattle.play_runner.proofs.turns.Playing.slots.Given as goal

abbrev pub invariant-loop : goal.invariant-loop
invariant-loop l = HasSlotsLeft l.fn.self l.self l.seat l.many l.counter
