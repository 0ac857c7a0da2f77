use Rattle.std.proofs.Common.{◌≡◌, ◌+◌, ◌-◌, get_or, sym, ap, arith}
use Rattle.std.proofs.lemmas.Bool.{lt-ltb}
use Rattle.dir_states.specs.Openings.{span}
use Rattle.dir_states.proofs.CountLemmas.{span-more, span-grows}
use Rattle.dir_states.proofs.counts.is_crowded.Goals as goal

pub returns-then-counts-class : goal.returns-then-counts-class
returns-then-counts-class c =
    let at : c.args.low + (c.loop-class.class - c.args.low) ≡ c.loop-class.class =
    omega (arith, c.loop-class.auto.class) in
    let kept : c.loop-class.room + span c.args.counts.now c.args.low
    (c.loop-class.class - c.args.low) ≡ c.args.most = c.loop-class.invariant in
    let next = span-more c.args.counts.now c.args.low (c.loop-class.class - c.args.low) in
    let same = ap (λ k. get_or c.args.counts.now k 0) at in
    let grows = span-grows c.args.counts.now c.args.low (c.loop-class.class - c.args.low + 1)
    (c.args.high - c.args.low) (omega (arith, c.loop-class-test.true, c.loop-class.auto.class)) in
    sym (lt-ltb c.args.most (span c.args.counts.now c.args.low (c.args.high - c.args.low))
    (omega (arith, kept, next, same, grows, c.if-counts-class.true)))

pub loop-class-preserved : goal.loop-class-preserved
loop-class-preserved c =
    let at : c.args.low + (c.loop-class.class - c.args.low) ≡ c.loop-class.class =
    omega (arith, c.loop-class.auto.class) in
    let kept : c.loop-class.room + span c.args.counts.now c.args.low
    (c.loop-class.class - c.args.low) ≡ c.args.most = c.loop-class.invariant in
    let next = span-more c.args.counts.now c.args.low (c.loop-class.class - c.args.low) in
    let same = ap (λ k. get_or c.args.counts.now k 0) at in
    let later : c.loop-class.class - c.args.low + 1 ≡ c.loop-class.class + 1 - c.args.low =
    omega (arith, c.loop-class.auto.class) in
    omega (arith, kept, next, same, ap (span c.args.counts.now c.args.low) later, c.if-counts-class.false)
