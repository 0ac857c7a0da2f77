-- One call more is dealt to its seat.
use Rattle.std.proofs.Common.{◌<◌, ◌∙◌, arith}
use Rattle.flows_runner.specs.Asked.{flow_seat}
use Rattle.flows_runner.proofs.ShareLemmas.{dealt_more}
use Rattle.flows_runner.proofs.pile.deal.Goals as goal

pub returns-in_ok-push-clause-dealt : goal.returns-in_ok-push-clause-dealt
returns-in_ok-push-clause-dealt c = λ calls are.
    let below : c.caller_of-seat.result < c.args.shares.now.len =
    omega (arith, c.caller_of-seat.ensures.inside, c.len.ensures) in
    dealt_more c.args.classes.now.rules c.args.shares.now.len c.args.shares.now.items c.caller_of-seat.result
    c.index_mut.result.now c.push.new.self c.args.call calls (omega (arith, below, c.args.shares.now.ok.0)) below
    c.index_mut.ensures.value c.in_ok-push.ensures.items
    (c.caller_of-seat.ensures.seat ∙ (λ i. flow_seat c.args.classes.now.rules (c.len.ensures i) (c.key.ensures i))) are
