-- The slot is taken.
use Rattle.std.proofs.Common.{refl, sym}
use Rattle.play_runner.proofs.Coming.{slot_taken}
use Rattle.play_runner.proofs.turns.Playing.slot.Goals as goal

pub returns : goal.returns
returns c =
    slot_taken c.args.self.now _ c.args.seat c.hand-hand.result c.in_ok-left.left c.requires c.hand-hand.ensures
    (sym c.if-is_stopped.ensures) c.in_ok-left.ensures.took refl c.in_ok-left.ensures.told
