use Rattle.std.proofs.Common.{◌∙◌, Some, ap, sym}
use Rattle.command_line.specs.Plays.{stop_for}
use Rattle.command_line.proofs.PlayLemmas.{seat_none, seat_step, seats_end}
use Rattle.command_line.proofs.words.plays.stops_for.Goals as goal

pub returns-in-None : goal.returns-in-None
returns-in-None c =
    seat_none (stop_for c.args.stops.now) c.args.seats c.loop-seat.seat c.loop-seat-test.true
    (sym c.stop_for.ensures ∙ c.in-None.is)

pub loop-seat-preserved : goal.loop-seat-preserved
loop-seat-preserved c =
    seat_step (stop_for c.args.stops.now) c.args.seats c.loop-seat.seat c.loop-seat.steps.items c.in-Some.stop
    c.loop-seat-test.true c.loop-seat.invariant (sym c.stop_for.ensures ∙ c.in-Some.is)
    ∙ ap (λ l. Some l) (sym c.in_ok-push-in-Some.ensures.items)

pub returns : goal.returns
returns c =
    seats_end (stop_for c.args.stops.now) c.args.seats c.loop-seat.seat _ c.loop-seat-test.false c.loop-seat.invariant
