use Rattle.std.proofs.Common.{◌∙◌, ◌+◌, ◌^◌, List, [], ◌∷◌, ◌++◌, length, take, refl, ap, sym, subst, arith, length-take-le}
use Rattle.std.proofs.lemmas.List.{take_more}
use Rattle.plain_map.specs.declared.calls.Call.{Call}
use Rattle.map_laws.specs.ByKey.{Made}
use Rattle.flow_workers.specs.declared.replies.ReplyCounts.{ReplyCounts}
use Rattle.flow_workers.specs.Counts.{AreBelow, counted_with, counts_after}
use Rattle.flow_workers.specs.Work.{HasMade}
use Rattle.flow_workers.proofs.CountLists.{below_after, below_more, counts_more}
use Rattle.flow_workers.proofs.SeatCalls.{as_many_calls, can_after, made_none, made_on}
use Rattle.flow_workers.proofs.workers.make_calls.Goals as goal

pub loop-place-init : goal.loop-place-init
loop-place-init g c = ([], made_none c.args.own.now c.requires.can.run c.requires.can.idle, refl)

pub make_call-reply-requires-clause-can : goal.make_call-reply-requires-clause-can
make_call-reply-requires-clause-can g c =
    let so_far = c.loop-place.invariant in
    can_after c.args.on.now c.args.own.now c.loop-place.own (length c.args.calls.now) 1
    (take c.loop-place.place c.args.calls.now) so_far.0 c.requires.can so_far.1
    (let few = length-take-le c.loop-place.place c.args.calls.now (omega (arith, c.loop-place-test.true)) in
    omega (arith, few, c.loop-place-test.true))

pub count-requires : goal.count-requires
count-requires g c =
    let so_far = c.loop-place.invariant in
    let counts : ReplyCounts = counts_after c.args.replies.now so_far.0 in
    let few = length-take-le c.loop-place.place c.args.calls.now (omega (arith, c.loop-place-test.true)) in
    let many = as_many_calls c.args.own.now c.loop-place.own (take c.loop-place.place c.args.calls.now) so_far.0
    so_far.1 in
    subst (AreBelow (2 ^ 63)) (sym so_far.2)
    (below_more (2 ^ 62 + length so_far.0) (2 ^ 63) counts
    (omega (arith, few, many, c.loop-place-test.true, c.requires.few))
    (below_after so_far.0 (2 ^ 62) c.args.replies.now c.requires.counts))

pub loop-place-preserved : goal.loop-place-preserved
loop-place-preserved g c =
    let so_far = c.loop-place.invariant in
    let calls : List Call = c.args.calls.now in
    let place = c.loop-place.place in
    let one = c.make_call-reply.ensures in
    let made : Made = (_, c.make_call-reply.result) in (
      so_far.0 ++ made ∷ [],
      subst (λ (l : List Call). HasMade c.args.own.now c.make_call-reply.new.own l (so_far.0 ++ made ∷ []))
          (sym (take_more calls place _ c.loop-place-test.true))
          (made_on c.args.own.now c.loop-place.own c.make_call-reply.new.own (take place calls) _ so_far.0 (made ∷ [])
          so_far.1 one),
      c.count.ensures ∙ ap (λ (r : ReplyCounts). counted_with r c.make_call-reply.result) so_far.2
          ∙ sym (counts_more c.args.replies.now so_far.0 made),
    )
