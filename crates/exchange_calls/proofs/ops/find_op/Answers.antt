-- Nothing is here, or an entry stays, or an op is due.
use Rattle.std.proofs.Common.{◌∙◌, ◌<◌, refl, sym, ap, arith}
use Rattle.exchange_calls.specs.Marks.{mark_of}
use Rattle.exchange_calls.proofs.OpsLemmas.{announced_asked, due_here, kept_here, none_here}
use Rattle.exchange_calls.proofs.ops.find_op.Goals as goal

pub load-announced-requires : goal.load-announced-requires
load-announced-requires g c =
    let i = c.requires.finding in
    record {
      asked = announced_asked i.first (g.S.Steps.now c.args.steps.now) c.args.own.now.call i.attempt c.args.seat
          c.args.hand.now i.reply i.so_far c.args.desk.now c.requires.desk c.requires.seat c.requires.other _
          c.announced-at.ensures;
    }

pub returns-then-not-is_here : goal.returns-then-not-is_here
returns-then-not-is_here g c i =
    none_here i.first (g.S.Steps.now c.args.steps.now) c.args.own.now.call i.attempt c.args.seat
    c.args.hand.now i.reply i.so_far c.args.desk.now c.requires.desk c.requires.seat c.requires.other
    (g.S.Steps.now c.load-announced.new.self) c.load-announced.result c.args.own.now.bucket
    c.load-announced.ensures.goes c.requires.bucket (sym c.is_here.ensures ∙ c.if-not-is_here.true)

pub take_op-requires-clause-taking : goal.take_op-requires-clause-taking
take_op-requires-clause-taking g c =
    let i = c.requires.finding in
    let low : c.args.seat < 64 = omega (arith, c.requires.seat, c.args.desk.now.sizes.few_seats) in
    due_here i.first (g.S.Steps.now c.args.steps.now) c.args.own.now.call i.attempt c.args.seat
    c.args.hand.now i.reply i.so_far c.args.desk.now c.requires.desk c.requires.seat c.requires.other
    (g.S.Steps.now c.load-announced.new.self) c.load-announced.result c.args.own.now.bucket
    c.load-announced.ensures.goes c.requires.bucket (sym c.is_here.ensures ∙ c.if-not-is_here.false) low
    c.mark_word-word.result c.mark_word-word.ensures.value
    (c.in-None.ensures ∙ ap (mark_of c.mark_word-word.result) c.deref.ensures.value)

pub returns-in-Some : goal.returns-in-Some
returns-in-Some g c i =
    let low : c.args.seat < 64 = omega (arith, c.requires.seat, c.args.desk.now.sizes.few_seats) in
    kept_here i.first (g.S.Steps.now c.args.steps.now) c.args.own.now.call i.attempt c.args.seat
    c.args.hand.now i.reply i.so_far c.args.desk.now c.requires.desk c.requires.seat c.requires.other
    (g.S.Steps.now c.load-announced.new.self) c.load-announced.result c.args.own.now.bucket
    c.load-announced.ensures.goes c.requires.bucket (sym c.is_here.ensures ∙ c.if-not-is_here.false) low
    c.mark_word-word.result c.mark_word-word.ensures.value c.in-Some.mark
    (c.in-Some.ensures ∙ ap (mark_of c.mark_word-word.result) c.deref.ensures.value) _ refl refl
    c.push_reserved.ensures.items

pub returns-in-None : goal.returns-in-None
returns-in-None g c i =
    let low : c.args.seat < 64 = omega (arith, c.requires.seat, c.args.desk.now.sizes.few_seats) in
    c.take_op.ensures
    (due_here i.first (g.S.Steps.now c.args.steps.now) c.args.own.now.call i.attempt c.args.seat
    c.args.hand.now i.reply i.so_far c.args.desk.now c.requires.desk c.requires.seat c.requires.other
    (g.S.Steps.now c.load-announced.new.self) c.load-announced.result c.args.own.now.bucket
    c.load-announced.ensures.goes c.requires.bucket (sym c.is_here.ensures ∙ c.if-not-is_here.false) low
    c.mark_word-word.result c.mark_word-word.ensures.value
    (c.in-None.ensures ∙ ap (mark_of c.mark_word-word.result) c.deref.ensures.value))
