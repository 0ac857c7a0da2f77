use Rattle.std.proofs.Common.{arith}
use Rattle.class_map.specs.Pairs.{IsHeld}
use Rattle.class_map.proofs.PairLemmas.{upto_all, upto_more}
use Rattle.class_map.proofs.rows.ClassMap.holds_all.Goals as goal

pub returns-then-not-has : goal.returns-then-not-has
returns-then-not-has c = λ sessions holds all.
    c.if-not-has.ensures sessions holds
    (all c.loop-pair.pair-index _ (omega (arith, c.loop-pair-test.true, c.loop-pair.auto.pair-index-end)))

pub loop-pair-preserved : goal.loop-pair-preserved
loop-pair-preserved c = λ sessions holds.
    upto_more (IsHeld sessions) c.args.pairs.now c.loop-pair.pair-index _
    (omega (arith, c.loop-pair-test.true, c.loop-pair.auto.pair-index-end)) (c.loop-pair.invariant sessions holds)
    (c.if-not-has.ensures sessions holds)

pub returns : goal.returns
returns c = λ sessions holds.
    upto_all (IsHeld sessions) c.args.pairs.now c.loop-pair.pair-index (omega (arith, c.loop-pair-test.false))
    (c.loop-pair.invariant sessions holds)
