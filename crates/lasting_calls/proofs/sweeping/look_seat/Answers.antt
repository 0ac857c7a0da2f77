-- By what its hold word has.
use Rattle.lasting_calls.specs.Going.{Going}
use Rattle.lasting_calls.proofs.SeatLemmas.{holds_next, seat_asks, seat_holds, seat_idle}
use Rattle.lasting_calls.proofs.sweeping.look_seat.Goals as goal

pub settle-word-requires-clause-at : goal.settle-word-requires-clause-at
settle-word-requires-clause-at g c =
    let a = c.requires.at in
    holds_next (g.S.Steps.now c.args.steps.now) a.first a.update c.args.seat c.args.rows.now a.at c.args.desk.now
    c.requires.desk c.requires.other c.requires.seat

pub returns-then-word-eq1-clause-looked : goal.returns-then-word-eq1-clause-looked
returns-then-word-eq1-clause-looked g c a =
    let f : Going = g.S.Steps.now c.args.steps.now in
    seat_asks f a.first a.update c.args.seat c.args.rows.now a.at c.args.desk.now c.requires.desk
    (g.S.Steps.now c.settle-word.new.steps) c.settle-word.result
    (c.settle-word.ensures (holds_next f a.first a.update c.args.seat c.args.rows.now a.at c.args.desk.now
    c.requires.desk c.requires.other c.requires.seat)) c.if-word-eq1.true

pub returns-then-word-eq0-clause-looked : goal.returns-then-word-eq0-clause-looked
returns-then-word-eq0-clause-looked g c a =
    let f : Going = g.S.Steps.now c.args.steps.now in
    seat_idle f a.first a.update c.args.seat c.args.rows.now a.at c.args.desk.now c.requires.desk
    (g.S.Steps.now c.settle-word.new.steps) c.settle-word.result
    (c.settle-word.ensures (holds_next f a.first a.update c.args.seat c.args.rows.now a.at c.args.desk.now
    c.requires.desk c.requires.other c.requires.seat)) c.if-word-eq1.false c.if-word-eq0.true

pub returns-clause-looked : goal.returns-clause-looked
returns-clause-looked g c a =
    let f : Going = g.S.Steps.now c.args.steps.now in
    seat_holds f a.first a.update c.args.seat c.args.rows.now a.at c.args.desk.now c.requires.desk
    (g.S.Steps.now c.settle-word.new.steps) c.settle-word.result
    (c.settle-word.ensures (holds_next f a.first a.update c.args.seat c.args.rows.now a.at c.args.desk.now
    c.requires.desk c.requires.other c.requires.seat)) c.keep_held.new.self c.keep_held.ensures.sound
    c.keep_held.ensures.same c.keep_held.ensures.rows c.if-word-eq1.false c.if-word-eq0.false
