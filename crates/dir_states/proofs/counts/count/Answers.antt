use Rattle.std.proofs.Common.{◌<◌, ◌≤◌, length, subst, ◌∙◌, arith}
use Rattle.std.proofs.Math.ListN.{length-set}
use Rattle.std.proofs.lemmas.List.{take_all}
use Rattle.table_model.specs.Setup.{HaveRoom}
use Rattle.dir_states.proofs.CountLemmas.{more-counted, counted-classmates}
use Rattle.dir_states.proofs.FindLemmas.{finds_next, first_without, have_room}
use Rattle.dir_states.proofs.counts.count.Goals as goal

pub returns-then-counts-class-clause-room : goal.returns-then-counts-class-clause-room
returns-then-counts-class-clause-room c =
    first_without c.args.rules.now c.args.first.now c.loop-place.place _ c.loop-place-test.true
    c.loop-place.invariant.found
    (subst (λ n. c.args.rules.now.items ≤ n)
    (counted-classmates c.args.rules.now c.args.first.now c.loop-place.place _ c.loop-place.counts
    c.class_of-class.result c.class_of-class.ensures.value c.class_of-class.ensures.within
    c.loop-place.invariant.counted) c.if-counts-class.true)

pub loop-place-preserved : goal.loop-place-preserved
loop-place-preserved c = record {
  counted =
      more-counted c.args.rules.now c.args.first.now c.loop-place.place _ c.loop-place.counts c.class_of-class.result
      c.loop-place-test.true
      c.class_of-class.ensures.value c.class_of-class.ensures.within c.loop-place.invariant.counted;
  found =
      finds_next c.args.rules.now c.args.first.now c.loop-place.place _ c.loop-place-test.true
      (subst (λ n. n < c.args.rules.now.items)
      (counted-classmates c.args.rules.now c.args.first.now c.loop-place.place _ c.loop-place.counts
      c.class_of-class.result c.class_of-class.ensures.value c.class_of-class.ensures.within
      c.loop-place.invariant.counted) c.if-counts-class.false)
      c.loop-place.invariant.found;
  len = length-set c.loop-place.counts c.class_of-class.result _ ∙ c.loop-place.invariant.len;
}

pub returns-clause-room : goal.returns-clause-room
returns-clause-room c =
    subst (HaveRoom c.args.rules.now) (take_all (length c.args.first.now) c.args.first.now (omega arith))
    (have_room c.args.rules.now c.args.first.now (length c.args.first.now) (omega arith)
    (λ k none below. c.loop-place.invariant.found k none (omega (arith, below, c.loop-place-test.false))))
