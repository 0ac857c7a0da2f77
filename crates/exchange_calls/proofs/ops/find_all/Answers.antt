-- One seat after the other.
use Rattle.std.proofs.Common.{◌∙◌, None, sym, ap}
use Rattle.exchange_model.specs.Plans.{Plan}
use Rattle.exchange_model.specs.Steps.{bucket_of_call}
use Rattle.exchange_calls.specs.Going.{Going}
use Rattle.exchange_calls.proofs.OwnLemmas.{all_found, finds_of, finds_plan, finds_posted}
use Rattle.exchange_calls.proofs.ops.find_all.Goals as goal

pub loop-seat-init : goal.loop-seat-init
loop-seat-init g c i = i.finds

pub find_one-reply-requires-clause-finding : goal.find_one-reply-requires-clause-finding
find_one-reply-requires-clause-finding g c =
    let i = c.requires.finding in
    record { first = i.first; attempt = i.attempt; finds = c.loop-seat.invariant i }

pub find_one-reply-requires-clause-desk : goal.find_one-reply-requires-clause-desk
find_one-reply-requires-clause-desk g c =
    let i = c.requires.finding in
    finds_of i.first (g.S.Steps.now c.args.steps.now) (g.S.Steps.now c.loop-seat.steps) c.args.own.now.call i.attempt
    c.args.announced 0 c.loop-seat.seat c.args.hand.now c.loop-seat.hand None c.loop-seat.reply i.finds
    (c.loop-seat.invariant i) c.args.desk.now c.requires.desk

pub find_one-reply-requires-clause-bucket : goal.find_one-reply-requires-clause-bucket
find_one-reply-requires-clause-bucket g c =
    let i = c.requires.finding in
    c.requires.bucket
    ∙ ap (λ (p : Plan). bucket_of_call p c.args.own.now.call)
    (sym (finds_plan i.first (g.S.Steps.now c.args.steps.now) (g.S.Steps.now c.loop-seat.steps) c.args.own.now.call
    i.attempt c.args.announced 0 c.loop-seat.seat c.args.hand.now c.loop-seat.hand None c.loop-seat.reply i.finds
    (c.loop-seat.invariant i)))

pub find_one-reply-requires-clause-number : goal.find_one-reply-requires-clause-number
find_one-reply-requires-clause-number g c =
    let i = c.requires.finding in
    c.requires.number
    ∙ sym (finds_posted i.first (g.S.Steps.now c.args.steps.now) (g.S.Steps.now c.loop-seat.steps) c.args.own.now.call
    i.attempt c.args.announced 0 c.loop-seat.seat c.args.hand.now c.loop-seat.hand None c.loop-seat.reply i.finds
    (c.loop-seat.invariant i))

pub loop-seat-preserved : goal.loop-seat-preserved
loop-seat-preserved g c i =
    c.find_one-reply.ensures (record {
      first = i.first;
      attempt = i.attempt;
      finds = c.loop-seat.invariant i;
    })

pub returns : goal.returns
returns g c i =
    let end : Going = g.S.Steps.now c.loop-seat.steps in
    all_found i.first end c.args.own.now.call i.attempt c.args.announced c.loop-seat.seat c.loop-seat.hand
    c.loop-seat.hand c.loop-seat.reply (c.loop-seat.invariant i) c.args.desk.now
    (finds_of i.first (g.S.Steps.now c.args.steps.now) end c.args.own.now.call i.attempt
    c.args.announced 0 c.loop-seat.seat c.args.hand.now c.loop-seat.hand None c.loop-seat.reply i.finds
    (c.loop-seat.invariant i) c.args.desk.now c.requires.desk)
    c.loop-seat-test.false c.loop-seat.auto.seat-end c.requires.seat
