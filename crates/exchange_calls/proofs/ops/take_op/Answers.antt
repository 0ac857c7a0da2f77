-- The op is loaded, and applied to the items at hand.
use Rattle.std.proofs.Common.{Some, refl, sym, subst}
use Rattle.plain_map.specs.declared.calls.Reply.{Reply}
use Rattle.plain_map.specs.Updates.{IsUpdateReply}
use Rattle.exchange_calls.specs.Going.{Going}
use Rattle.exchange_calls.proofs.ChangeLemmas.{reply_small}
use Rattle.exchange_calls.proofs.OpsLemmas.{loading, taken}
use Rattle.exchange_calls.proofs.ops.take_op.Goals as goal

pub load_op-call-requires-clause-loading : goal.load_op-call-requires-clause-loading
load_op-call-requires-clause-loading g c =
    loading (g.S.Steps.now c.args.steps.now) c.args.own.now.call c.args.seat c.args.word c.args.hand.now
    c.requires.taking

pub reply_word-requires : goal.reply_word-requires
reply_word-requires g c =
    subst (λ (r : Reply). IsUpdateReply (Some r)) (sym c.change-reply.ensures.answer.reply)
    (reply_small c.args.desk.now.rules c.args.hand.now.items.items c.requires.taking.is_made.small
    c.load_op-call.result c.load_op-call.ensures.update)

pub returns : goal.returns
returns g c t =
    let f : Going = g.S.Steps.now c.args.steps.now in
    let answer = c.change-reply.ensures.answer in
    taken f c.args.own.now.call c.args.seat c.args.word c.args.hand.now t c.args.desk.now c.requires.desk
    c.requires.other (g.S.Steps.now c.load_op-call.new.steps) c.load_op-call.result c.change-reply.result
    c.reply_word.result _ c.load_op-call.ensures.update
    (c.load_op-call.ensures.goes
    (loading f c.args.own.now.call c.args.seat c.args.word c.args.hand.now t))
    answer.reply c.reply_word.ensures answer.after refl c.push_reserved.ensures.items
