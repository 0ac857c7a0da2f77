-- The announcement, the tries, and its end.
use Rattle.exchange_model.specs.Steps.{Goes, LoadWord}
use Rattle.exchange_calls.proofs.UpdateLemmas.{is_over, over_ended}
use Rattle.exchange_calls.proofs.updates.make_announced.Goals as goal

pub end-requires-clause-over : goal.end-requires-clause-over
end-requires-clause-over g c =
    is_over (g.S.Steps.now c.args.steps.now) (g.S.Steps.now c.announce.new.steps)
    (g.S.Steps.now c.see_through-reply.new.steps) c.args.own.now.call (Goes c.args.own.now.call (LoadWord 2))
    c.see_through-reply.new.seat c.see_through-reply.result c.announce.ensures c.see_through-reply.ensures.goes

pub returns : goal.returns
returns g c =
    let o = is_over (g.S.Steps.now c.args.steps.now) (g.S.Steps.now c.announce.new.steps)
    (g.S.Steps.now c.see_through-reply.new.steps) c.args.own.now.call (Goes c.args.own.now.call (LoadWord 2))
    c.see_through-reply.new.seat c.see_through-reply.result c.announce.ensures c.see_through-reply.ensures.goes in
    over_ended (g.S.Steps.now c.args.steps.now) (g.S.Steps.now c.announce.new.steps)
    (g.S.Steps.now c.see_through-reply.new.steps) c.args.own.now.call (Goes c.args.own.now.call (LoadWord 2))
    c.see_through-reply.new.seat c.see_through-reply.result c.announce.ensures c.see_through-reply.ensures.goes
    (g.S.Steps.now c.end.new.steps) (c.end.ensures o)
