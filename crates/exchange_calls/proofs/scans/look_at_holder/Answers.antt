-- By what its hold word has.
use Rattle.exchange_calls.specs.Going.{Going}
use Rattle.exchange_calls.proofs.ScanLemmas.{holder_asks, holder_holds, holder_idle, holds_next}
use Rattle.exchange_calls.proofs.scans.look_at_holder.Goals as goal

pub settle-word-requires-clause-at : goal.settle-word-requires-clause-at
settle-word-requires-clause-at g c =
    let a = c.requires.at in
    holds_next (g.S.Steps.now c.args.steps.now) a.base a.call c.args.holder c.args.rows.now a.at c.args.desk.now
    c.requires.desk c.requires.other c.requires.holder

pub returns-then-word-eq1 : goal.returns-then-word-eq1
returns-then-word-eq1 g c a =
    let f : Going = g.S.Steps.now c.args.steps.now in
    holder_asks f a.base a.call c.args.holder c.args.rows.now a.at c.args.desk.now c.requires.desk
    (g.S.Steps.now c.settle-word.new.steps) c.settle-word.result
    (c.settle-word.ensures (holds_next f a.base a.call c.args.holder c.args.rows.now a.at c.args.desk.now
    c.requires.desk c.requires.other c.requires.holder)) c.if-word-eq1.true

pub returns-then-word-eq0 : goal.returns-then-word-eq0
returns-then-word-eq0 g c a =
    let f : Going = g.S.Steps.now c.args.steps.now in
    holder_idle f a.base a.call c.args.holder c.args.rows.now a.at c.args.desk.now c.requires.desk
    (g.S.Steps.now c.settle-word.new.steps) c.settle-word.result
    (c.settle-word.ensures (holds_next f a.base a.call c.args.holder c.args.rows.now a.at c.args.desk.now
    c.requires.desk c.requires.other c.requires.holder)) c.if-word-eq1.false c.if-word-eq0.true

pub returns : goal.returns
returns g c a =
    let f : Going = g.S.Steps.now c.args.steps.now in
    holder_holds f a.base a.call c.args.holder c.args.rows.now a.at c.args.desk.now c.requires.desk
    (g.S.Steps.now c.settle-word.new.steps) c.settle-word.result
    (c.settle-word.ensures (holds_next f a.base a.call c.args.holder c.args.rows.now a.at c.args.desk.now
    c.requires.desk c.requires.other c.requires.holder)) c.keep.new.self c.keep.ensures.next c.keep.ensures.free
    c.keep.ensures.kept c.if-word-eq1.false c.if-word-eq0.false
