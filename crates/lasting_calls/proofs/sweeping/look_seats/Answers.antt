-- Seat by seat, and what is gone is free.
use Rattle.std.proofs.Common.{◌∙◌, arith}
use Rattle.lasting_calls.specs.Going.{Going}
use Rattle.lasting_calls.proofs.SeatLemmas.{all_looked, passed, still_desk}
use Rattle.lasting_calls.proofs.sweeping.look_seats.Goals as goal

pub loop-seat-preserved-then-seat-desk : goal.loop-seat-preserved-then-seat-desk
loop-seat-preserved-then-seat-desk g c = record {
  looked = λ a.
      let now : Going = g.S.Steps.now c.loop-seat.steps in
      let b = c.loop-seat.invariant.looked a in
      passed now a.first a.update c.loop-seat.seat c.loop-seat.rows b c.args.desk.now
      (still_desk (g.S.Steps.now c.args.steps.now) a.first now a.update a.update 0 c.loop-seat.seat c.args.rows.now
      c.loop-seat.rows c.args.desk.now a.at c.requires.desk b) c.if-seat-desk.true;
  sweeps = c.loop-seat.invariant.sweeps;
}

pub look_seat-requires-clause-at : goal.look_seat-requires-clause-at
look_seat-requires-clause-at g c =
    let a = c.requires.at in
    record { first = a.first; update = a.update; at = c.loop-seat.invariant.looked a }

pub look_seat-requires-clause-desk : goal.look_seat-requires-clause-desk
look_seat-requires-clause-desk g c =
    let a = c.requires.at in
    still_desk (g.S.Steps.now c.args.steps.now) a.first (g.S.Steps.now c.loop-seat.steps) a.update a.update 0
    c.loop-seat.seat c.args.rows.now c.loop-seat.rows c.args.desk.now a.at c.requires.desk
    (c.loop-seat.invariant.looked a)

pub loop-seat-preserved : goal.loop-seat-preserved
loop-seat-preserved g c = record {
  looked = λ a. c.look_seat.ensures.looked (record {
    first = a.first;
    update = a.update;
    at = c.loop-seat.invariant.looked a;
  });
  sweeps = c.look_seat.ensures.same.sweeps ∙ c.loop-seat.invariant.sweeps;
}

pub free_gone-requires-clause-sound : goal.free_gone-requires-clause-sound
free_gone-requires-clause-sound g c = (c.loop-seat.invariant.looked c.requires.at).at.sound

pub returns : goal.returns
returns g c a =
    let now : Going = g.S.Steps.now c.loop-seat.steps in
    let b = c.loop-seat.invariant.looked a in
    all_looked now a.first a.update c.loop-seat.seat c.loop-seat.rows b c.args.desk.now
    (still_desk (g.S.Steps.now c.args.steps.now) a.first now a.update a.update 0 c.loop-seat.seat c.args.rows.now
    c.loop-seat.rows c.args.desk.now a.at c.requires.desk b) c.free_gone.new.self
    (omega (arith, c.loop-seat-test.false))
    c.free_gone.ensures.sound c.free_gone.ensures.first c.free_gone.ensures.count c.free_gone.ensures.sweeps
    c.free_gone.ensures.rows
