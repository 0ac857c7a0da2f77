-- One slot after the other.
use Rattle.std.proofs.Common.{refl, inl, inr}
use Rattle.play_runner.proofs.Coming.{slot_on, slots_done, slots_out}
use Rattle.play_runner.proofs.turns.Playing.slots.Goals as goal

pub loop-init : goal.loop-init
loop-init c = slots_out c.args.self.now c.args.seat c.args.many c.requires

pub slot-requires : goal.slot-requires
slot-requires c = c.loop.invariant.stands

pub loop-preserved : goal.loop-preserved
loop-preserved c =
    slot_on c.args.self.now c.loop.self c.slot.new.self c.args.seat c.args.many c.loop.counter c.loop-test.true
    c.loop.invariant c.in_ok-slot.ensures

pub returns-then-is_done : goal.returns-then-is_done
returns-then-is_done c =
    slots_done c.args.self.now c.loop.self c.args.seat c.args.many c.loop.counter c.loop.invariant
    (inr (c.if-is_done.ensures refl))

pub returns : goal.returns
returns c =
    slots_done c.args.self.now c.loop.self c.args.seat c.args.many c.loop.counter c.loop.invariant
    (inl c.loop-test.false)
