use Rattle.std.proofs.Common.{◌-◌, sym, ◌∙◌, arith}
use Rattle.pcapng_reader.proofs.ClockFacts.{clock_ended, clock_none, turn_more}
use Rattle.pcapng_reader.proofs.clock.clock_in.Goals as goal

pub returns-then-ends_options : goal.returns-then-ends_options
returns-then-ends_options c =
    sym (c.loop-turn.invariant
    ∙ clock_ended (1024 - c.loop-turn.turn) c.args.order c.loop-turn.rest.now c.loop-turn.clock
    (sym c.ends_options.ensures ∙ c.if-ends_options.true))

pub loop-turn-preserved : goal.loop-turn-preserved
loop-turn-preserved c =
    let turn = c.loop-turn.turn in
    let behind = c.behind_option-rest.result.now in
    c.loop-turn.invariant
    ∙ turn_more 1024 turn c.args.order c.loop-turn.rest.now behind c.loop-turn.clock c.with_option-clock.result
    (omega (arith, c.loop-turn-test.true)) (sym c.ends_options.ensures ∙ c.if-ends_options.false)
    c.behind_option-rest.ensures c.with_option-clock.ensures

pub returns : goal.returns
returns c =
    sym (c.loop-turn.invariant
    ∙ clock_none (1024 - c.loop-turn.turn) c.args.order c.loop-turn.rest.now c.loop-turn.clock
    (omega (arith, c.loop-turn-test.false)))
