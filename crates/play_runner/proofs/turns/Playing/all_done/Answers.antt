-- A round does nothing where no seat does.
use Rattle.std.proofs.Common.{arith}
use Rattle.play_laws.proofs.Skipped.{round_stays}
use Rattle.play_runner.specs.Plays.{play_in}
use Rattle.play_runner.proofs.turns.Playing.all_done.Goals as goal

pub returns : goal.returns
returns c e =
    round_stays c.args.self.now.core.setup (play_in c.args.self.now)
    (λ q h. c.loop-seat.invariant q (omega (arith, h, c.requires, c.loop-seat-test.false)))
