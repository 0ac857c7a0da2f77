-- One seat after the other.
use Rattle.play_runner.proofs.Coming.{round_done, round_out, seat_on}
use Rattle.play_runner.proofs.turns.Playing.run_round.Goals as goal

pub loop-seat-init : goal.loop-seat-init
loop-seat-init c = round_out c.args.self.now c.args.seats c.requires.stands

pub loop-seat-preserved : goal.loop-seat-preserved
loop-seat-preserved c =
    seat_on c.args.self.now c.loop-seat.self c.slot.new.self c.args.seats c.loop-seat.seat c.loop-seat-test.true
    c.loop-seat.invariant c.in_ok-slot.ensures

pub slot-requires : goal.slot-requires
slot-requires c = c.loop-seat.invariant.stands

pub returns : goal.returns
returns c =
    round_done c.args.self.now c.loop-seat.self c.args.seats c.loop-seat.seat c.loop-seat.invariant
    c.loop-seat-test.false c.requires.seats
