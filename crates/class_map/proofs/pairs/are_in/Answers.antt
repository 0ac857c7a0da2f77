use Rattle.std.proofs.Common.{arith}
use Rattle.class_map.specs.Pairs.{IsIn}
use Rattle.class_map.proofs.PairLemmas.{upto_all, upto_more}
use Rattle.class_map.proofs.pairs.are_in.Goals as goal

pub returns-then-not-is_in : goal.returns-then-not-is_in
returns-then-not-is_in c = λ ordered all.
    c.if-not-is_in.ensures ordered
    (all c.loop-pair.pair-index _ (omega (arith, c.loop-pair-test.true, c.loop-pair.auto.pair-index-end)))

pub loop-pair-preserved : goal.loop-pair-preserved
loop-pair-preserved c = λ ordered.
    upto_more (IsIn c.args.pairs.now) c.args.some.now c.loop-pair.pair-index _
    (omega (arith, c.loop-pair-test.true, c.loop-pair.auto.pair-index-end)) (c.loop-pair.invariant ordered)
    (c.if-not-is_in.ensures ordered)

pub returns : goal.returns
returns c = λ ordered.
    upto_all (IsIn c.args.pairs.now) c.args.some.now c.loop-pair.pair-index (omega (arith, c.loop-pair-test.false))
    (c.loop-pair.invariant ordered)
