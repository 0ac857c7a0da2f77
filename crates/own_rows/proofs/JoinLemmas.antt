-- A ring is put to the end of another: all named rows are to be looked at, or all rows that are gone are free.
use Rattle.std.proofs.Common.{◌≡◌, ℕ, ◌+◌, ◌<◌, ◌≤◌, ◌∙◌, List, [], ◌∷◌, ◌++◌, refl, sym, ap, subst, append-nil, arith}
use Rattle.own_rows.specs.declared.rows.OwnRows.{OwnRows}
use Rattle.own_rows.specs.Rings.{Ring, count, last_of, numbers}
use Rattle.own_rows.specs.Rows.{AreSwapped, HasRows, IsLinked, IsSound, Rows, back_of, free_hook, gone_hook, named_hook, next_of, todo_hook}
use Rattle.own_rows.proofs.RingLemmas.{counts_both, counts_first, counts_last, differ}
use Rattle.own_rows.proofs.MoveLemmas.{Swap, joined_ring, last_reaches, left_alone}
use Rattle.own_rows.proofs.KeepLemmas.{AreKept, buckets_same, generation_same, kept, kept_twice, linked_anew, lost_same, relinked, ringed, ringed_linked, ringed_once, swap_of, swap_then}
use Rattle.own_rows.proofs.MovedLemmas.{ring_stays}

module _ (was mid now : OwnRows) (one two : ℕ) (xs ys : List ℕ) (sound : IsSound mid)
    (once : (k : ℕ) → count (one ∷ xs) k + count (two ∷ ys) k ≤ 1)
    (linked : (k : ℕ) → 1 ≤ count (one ∷ xs) k + count (two ∷ ys) k → IsLinked was k)
    (ring : Ring (next_of was) xs one) (more : Ring (next_of was) ys two)
    (cut : AreSwapped was mid (last_of xs one) two) (put : AreSwapped mid now (back_of mid two) two) where
  low : (k : ℕ) → 1 ≤ count (one ∷ xs) k + count (two ∷ ys) k → was.first ≤ k
  low k h = (linked k h).0

  cutting : Swap was.first (next_of was) (next_of mid) (last_of xs one) two
  cutting = swap_of was mid (last_of xs one) two cut

  abbrev end : ℕ
  end = last_of (xs ++ ys) one

  reached : next_of mid end ≡ two
  reached = last_reaches was.first (next_of was) (next_of mid) (next_of now) xs ys one two once low ring more cutting

  counts_end : 1 ≤ count (one ∷ (xs ++ ys)) end
  counts_end = counts_last (xs ++ ys) one

  end_in : IsLinked was end
  end_in = linked end (omega (arith, counts_end, counts_both end xs ys))

  end_is : back_of mid two ≡ end
  end_is =
      ap (back_of mid) (sym reached)
      ∙ sound.both end (omega (arith, end_in, cut.first), omega (arith, end_in, cut.first, cut.rows))

  putting : Swap was.first (next_of mid) (next_of now) end two
  putting =
      swap_then was mid now end two (kept was mid (last_of xs one) two cut)
      (subst (λ (k : ℕ). AreSwapped mid now k two) end_is put)

  pub now_joined : Ring (next_of now) (xs ++ ys) one
  now_joined =
      joined_ring was.first (next_of was) (next_of mid) (next_of now) xs ys one two once low ring more cutting putting

  pub now_alone : Ring (next_of now) [] two
  now_alone =
      left_alone was.first (next_of was) (next_of mid) (next_of now) xs ys one two once low ring more cutting putting

  pub now_other : (hook : ℕ) (ws : List ℕ) →
      ((k : ℕ) → count (hook ∷ ws) k + (count (one ∷ xs) k + count (two ∷ ys) k) ≤ 1) →
      ((k : ℕ) → 1 ≤ count (hook ∷ ws) k → IsLinked was k) → Ring (next_of was) ws hook → Ring (next_of now) ws hook
  now_other hook ws apart in_it other =
      ring_stays was.first (next_of mid) (next_of now) end two hook ws putting
      (λ k h. (
        (in_it k h).0,
        differ (hook ∷ ws) (one ∷ (xs ++ ys)) k end (λ i. omega (arith, apart i, counts_both i xs ys)) h counts_end,
        differ (hook ∷ ws) (two ∷ ys) k two (λ i. omega (arith, apart i)) h (counts_first two ys),
      ))
      (ring_stays was.first (next_of was) (next_of mid) (last_of xs one) two hook ws cutting
      (λ k h. (
        (in_it k h).0,
        differ (hook ∷ ws) (one ∷ xs) k (last_of xs one) (λ i. omega (arith, apart i)) h (counts_last xs one),
        differ (hook ∷ ws) (two ∷ ys) k two (λ i. omega (arith, apart i)) h (counts_first two ys),
      ))
      other)

  pub joined_kept : AreKept was now
  joined_kept = kept_twice was mid now (kept was mid (last_of xs one) two cut) (kept mid now (back_of mid two) two put)

-- a sweep begins: it has still to look at all rows that are named
module _ (was mid now : OwnRows) (sound : IsSound mid) (r : Rows) (has : HasRows was (record r { todo = [] }))
    (cut : AreSwapped was mid (todo_hook was) (named_hook was))
    (put : AreSwapped mid now (back_of mid (named_hook was)) (named_hook was)) where
  ring_once : (k : ℕ) → count (todo_hook was ∷ []) k + count (named_hook was ∷ numbers r.named) k ≤ 1
  ring_once k = omega (arith, ringed_once was (record r { todo = [] }) has k)

  ring_linked : (k : ℕ) → 1 ≤ count (todo_hook was ∷ []) k + count (named_hook was ∷ numbers r.named) k →
      IsLinked was k
  ring_linked k h = ringed_linked was (record r { todo = [] }) has k (omega (arith, h))

  pub sweep_begun : HasRows now (record r { named = []; todo = r.named })
  sweep_begun =
      relinked was now
      (joined_kept was mid now (todo_hook was) (named_hook was) [] (numbers r.named) sound ring_once ring_linked
      has.todo
      has.named cut put)
      (record r { todo = [] }) (record r { named = []; todo = r.named }) has
      (now_other was mid now (todo_hook was) (named_hook was) [] (numbers r.named) sound ring_once ring_linked has.todo
      has.named cut put (free_hook was) r.free
      (λ k. omega (arith, ringed_once was (record r { todo = [] }) has k))
      (λ k h. ringed_linked was (record r { todo = [] }) has k (omega (arith, h))) has.free)
      (now_alone was mid now (todo_hook was) (named_hook was) [] (numbers r.named) sound ring_once ring_linked has.todo
      has.named cut put)
      (now_joined was mid now (todo_hook was) (named_hook was) [] (numbers r.named) sound ring_once ring_linked has.todo
      has.named cut put)
      (now_other was mid now (todo_hook was) (named_hook was) [] (numbers r.named) sound ring_once ring_linked has.todo
      has.named cut put (gone_hook was) (numbers r.gone)
      (λ k. omega (arith, ringed_once was (record r { todo = [] }) has k))
      (λ k h. ringed_linked was (record r { todo = [] }) has k (omega (arith, h))) has.gone)
      (λ k. omega arith) (λ k. refl) (λ k. refl) tt has.named_buckets has.gone_buckets

-- the sweep is over: what is gone is free
module _ (was mid now : OwnRows) (sound : IsSound mid) (r : Rows) (has : HasRows was r)
    (cut : AreSwapped was mid (last_of r.free (free_hook was)) (gone_hook was))
    (put : AreSwapped mid now (back_of mid (gone_hook was)) (gone_hook was)) where
  once : (k : ℕ) → ringed was r k ≤ 1
  once = ringed_once was r has

  in_it : (k : ℕ) → 1 ≤ ringed was r k → IsLinked was k
  in_it = ringed_linked was r has

  free_once : (k : ℕ) → count (free_hook was ∷ r.free) k + count (gone_hook was ∷ numbers r.gone) k ≤ 1
  free_once k = omega (arith, once k)

  free_linked : (k : ℕ) → 1 ≤ count (free_hook was ∷ r.free) k + count (gone_hook was ∷ numbers r.gone) k →
      IsLinked was k
  free_linked k h = in_it k (omega (arith, h))

  all : AreKept was now
  all =
      joined_kept was mid now (free_hook was) (gone_hook was) r.free (numbers r.gone) sound free_once free_linked
      has.free
      has.gone cut put

  stays_other : (hook : ℕ) (ws : List ℕ) →
      ((k : ℕ) → count (hook ∷ ws) k
      + (count (free_hook was ∷ r.free) k + count (gone_hook was ∷ numbers r.gone) k) ≤ 1) →
      ((k : ℕ) → 1 ≤ count (hook ∷ ws) k → IsLinked was k) → Ring (next_of was) ws hook → Ring (next_of now) ws hook
  stays_other =
      now_other was mid now (free_hook was) (gone_hook was) r.free (numbers r.gone) sound free_once free_linked has.free
      has.gone cut put

  pub gone_freed : HasRows (record now { sweeps = now.sweeps + 1 })
      (record r { free = r.free ++ numbers r.gone; gone = [] })
  gone_freed =
      linked_anew was (record now { sweeps = now.sweeps + 1 }) r
      (record r { free = r.free ++ numbers r.gone; gone = [] }) has all.first all.rows
      (now_joined was mid now (free_hook was) (gone_hook was) r.free (numbers r.gone) sound free_once free_linked
      has.free has.gone cut put)
      (stays_other (named_hook was) (numbers r.named) (λ k. omega (arith, once k))
      (λ k h. in_it k (omega (arith, h))) has.named)
      (stays_other (todo_hook was) (numbers r.todo) (λ k. omega (arith, once k))
      (λ k h. in_it k (omega (arith, h))) has.todo)
      (now_alone was mid now (free_hook was) (gone_hook was) r.free (numbers r.gone) sound free_once free_linked
      has.free has.gone cut put)
      (λ k. omega (arith, counts_both k r.free (numbers r.gone)))
      (buckets_same was now all r.named has.named_buckets) (buckets_same was now all r.todo has.todo_buckets) tt
      (λ k h. generation_same was now all k
      ∙ has.generations k (omega (arith, h, counts_both k r.free (numbers r.gone))))
      (omega arith)
      (λ k low high. omega (arith, lost_same was now all k, has.early k low high, all.sweeps))
      (λ k h. absurd (omega (arith, h)))
      (λ k low high e. absurd (omega (arith, e, lost_same was now all k, has.early k low high, all.sweeps)))

-- nothing is gone
pub none_gone : (o : OwnRows) (r : Rows) → HasRows o r → next_of o (gone_hook o) ≡ gone_hook o → r.gone ≡ []
none_gone o r has is = by r.gone has.gone (λ row h. has.mine row (omega (arith, h)))
  where
    by : (gone : List (ℕ × ℕ)) → Ring (next_of o) (numbers gone) (gone_hook o) →
        ((row : ℕ) → 1 ≤ count (numbers gone) row → (o.first ≤ row) × (row < o.first + o.rows)) → gone ≡ []
    by [] ring mine = refl
    by (row ∷ gone) ring mine =
        absurd (omega (arith, ring.0, is, mine row.0 (counts_first row.0 (numbers gone))))

pub none_freed : (o : OwnRows) (r : Rows) → HasRows o r → r.gone ≡ [] →
    HasRows o (record r { free = r.free ++ numbers r.gone; gone = [] })
none_freed o r has is =
    subst (λ (f : List ℕ). HasRows o (record r { free = f; gone = [] }))
    (sym (append-nil r.free) ∙ ap (λ (g : List (ℕ × ℕ)). r.free ++ numbers g) (sym is))
    (subst (λ (g : List (ℕ × ℕ)). HasRows o (record r { gone = g })) is has)
