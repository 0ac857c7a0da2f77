use Rattle.std.proofs.Common.{◌++◌, ◌+◌, ◌<◌, ◌∙◌, [], ◌∷◌, List, Vec, Global, append_assoc, ap, sym, take, drop, get_or, length, arith, rules}
use Rattle.std.proofs.lemmas.Bool.{not-false, not-true}
use Rattle.std.proofs.lemmas.List.{drop_more, take_more}
use Rattle.plain_map.specs.declared.keys.Key.{Key}
use Rattle.bound_laws.proofs.KeyCounts.{has}
use Rattle.batch_rows.proofs.KeyLemmas.{same_left_out, same_lists, same_taken}
use Rattle.batch_rows.proofs.OrderLemmas.{greater, left_less, lesser, order_left_out, order_taken}
use Rattle.batch_rows.proofs.keys.union_of.Goals as goal
use Rattle.batch_rows.proofs.keys.union_of.Goals.{then-place-keys+in_ok-push-2, else-place-keys+else-ne, then-place-keys-via-then-place-keys, then-place-keys-via-else-place-keys+then-ne, then-loop-place-test+else-lt, else-loop-place-test}
use Rattle.plain_map.specs.Keys.{no_key}

-- the key that is read past the end of a list
abbrev nobody : Key
nobody = no_key

pub loop-other-preserved : goal.loop-other-preserved
loop-other-preserved c =
    let keys : List Key = c.args.keys.now in
    let all : List Key = c.loop-place.all.items in
    let left : List Key = drop c.loop-place.place keys in
    let seen : List Key = c.args.others.now in
    let index = c.loop-other.other-index in
    let others : List Key = take index seen in
    let more = ap (λ (l : List Key). keys ++ l) (take_more seen index _ c.loop-other-test.true)
    ∙ sym (append_assoc keys others (_ ∷ [])) in
    let same = c.loop-place.invariant.same in
    record {
      within = search rules;
      same = elim c.if-place-keys.branch [
        | then-place-keys+in_ok-push-2 w ↦
            same_lists _ _ _ _
            (ap (λ (v : Vec Key Global). v.items ++ left) w.all-is
            ∙ ap (λ (l : List Key). l ++ left) w.in_ok-push-2.ensures.items)
            more
            (same_taken all left (keys ++ others) _ same)
        | else-place-keys+else-ne w ↦
            let inside : c.loop-place.place < length keys =
            omega (arith, c.loop-place.invariant.within, w.if-place-keys.false) in
            same_lists _ _ _ _
            (ap (λ (v : Vec Key Global). v.items ++ left) w.all-is)
            more
            (same_left_out all keys (keys ++ others) c.loop-place.place _ _ inside
            (not-false _ (sym w.ne.ensures ∙ w.if-ne.false)) same)
      ];
      in_order = elim c.if-place-keys.branch [
        | then-place-keys+in_ok-push-2 w ↦ λ first second.
            let was = c.loop-place.invariant.in_order first second in
            let other : Key = get_or seen index nobody in
            let less = left_less all keys c.loop-place.place nobody other
            (λ inside. elim c.loop-place-test.branch [
              | then-loop-place-test+else-lt v ↦ elim w.then-place-keys.branch [
                | then-place-keys-via-then-place-keys v' ↦ absurd (omega (arith, inside, v'.if-place-keys.true))
                | then-place-keys-via-else-place-keys+then-ne v' ↦
                    greater (get_or keys c.loop-place.place nobody) other (sym v.if-lt.ensures)
                    (not-true _ (sym v'.if-ne.ensures))
              ]
              | else-loop-place-test v ↦ absurd (omega (arith, inside, v.loop-place-test.false))
            ])
            was.0 in
            let taken = order_taken all seen left index nobody c.loop-other-test.true less (was.1, was.0) in
            rw (w.all-is, w.in_ok-push-2.ensures.items) (taken.1, taken.0)
        | else-place-keys+else-ne w ↦ λ first second.
            let was = c.loop-place.invariant.in_order first second in
            rw w.all-is (was.0, order_left_out all seen index nobody c.loop-other-test.true was.1)
      ];
    }

pub loop-place-preserved : goal.loop-place-preserved
loop-place-preserved c =
    let keys : List Key = c.args.keys.now in
    let all : List Key = c.loop-place.all.items in
    let place = c.loop-place.place in
    let seen : List Key = c.args.others.now in
    let index = c.loop-other.other-index in
    record {
      within = search rules;
      same = λ q. ap (λ (l : List Key). has l q)
          (ap (λ (l : List Key). l ++ drop (place + 1) keys) c.in_ok-push.ensures.items
          ∙ append_assoc all (_ ∷ []) (drop (place + 1) keys)
          ∙ ap (λ (l : List Key). all ++ l) (sym (drop_more keys place _ c.loop-place-test.true)))
          ∙ c.loop-place.invariant.same q;
      in_order = λ first second.
          let was = c.loop-place.invariant.in_order first second in
          let key : Key = get_or keys place nobody in
          let less = left_less all seen index nobody key
          (λ inside. lesser key (get_or seen index nobody) (sym c.if-lt.ensures)) was.1 in
          rw c.in_ok-push.ensures.items
          (order_taken all keys (drop index seen) place nobody c.loop-place-test.true less was);
    }
