-- The seats before this one do nothing.
use Rattle.std.proofs.Common.{◌≡◌, ℕ, ◌<◌}
use Rattle.table_model.specs.Schedules.{slot}
use Rattle.play_runner.specs.Plays.{play_in}
use Rattle.play_runner.proofs.turns.Playing.all_done.Given as goal

abbrev pub invariant-loop-seat : goal.invariant-loop-seat
invariant-loop-seat l = (q : ℕ) → q < l.seat → slot l.self.core.setup q (play_in l.self) ≡ play_in l.self
