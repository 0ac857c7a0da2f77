-- A row is gone from the word of its bucket.
use Rattle.std.proofs.Common.{◌≡◌, ◌≢◌, ℕ, ◌+◌, ◌-◌, ◌<◌, ◌≤◌, ◌∙◌, List, [], ◌∷◌, length, get_or, set, inl, inr, sym, ap, subst, arith}
use Rattle.std.proofs.lemmas.Bool.{cases_eq}
use Rattle.own_rows.specs.declared.rows.OwnRows.{OwnRows}
use Rattle.own_rows.specs.Rings.{Ring, count, numbers}
use Rattle.own_rows.specs.Rows.{AreSwapped, HasRows, HaveBuckets, IsLinked, Rows, bucket_of, free_hook, gone_hook, lost_of, named_hook, next_of, todo_hook}
use Rattle.own_rows.proofs.RingLemmas.{counts_first, counts_rest, differ, none_for, stays}
use Rattle.own_rows.proofs.MoveLemmas.{Swap, is_alone, with_first, without_row}
use Rattle.own_rows.proofs.KeepLemmas.{AreKept, buckets_same, generation_same, kept, kept_twice, linked_anew, lost_same, ringed, ringed_linked, ringed_once, swap_of, swap_then, written_here, written_there}
use Rattle.own_rows.proofs.MovedLemmas.{ring_stays}

module _ (was mid now end : OwnRows) (r : Rows) (row : ℕ × ℕ) (todo : List (ℕ × ℕ))
    (has : HasRows was (record r { todo = row ∷ todo }))
    (cut : AreSwapped was mid (todo_hook was) row.0) (put : AreSwapped mid now (gone_hook was) row.0)
    (same : AreKept now (record end { lost = now.lost })) (links : end.next ≡ now.next)
    (wide : row.0 - now.first < length now.lost.items)
    (written : end.lost.items ≡ set now.lost.items (row.0 - now.first) now.sweeps) where
  abbrev before : Rows
  before = record r { todo = row ∷ todo }

  once : (k : ℕ) → ringed was before k ≤ 1
  once = ringed_once was before has

  linked : (k : ℕ) → 1 ≤ ringed was before k → IsLinked was k
  linked = ringed_linked was before has

  cutting : Swap was.first (next_of was) (next_of mid) (todo_hook was) row.0
  cutting = swap_of was mid (todo_hook was) row.0 cut

  putting : Swap was.first (next_of mid) (next_of now) (gone_hook was) row.0
  putting = swap_then was mid now (gone_hook was) row.0 (kept was mid (todo_hook was) row.0 cut) put

  todo_once : (k : ℕ) → count (todo_hook was ∷ []) k + count (row.0 ∷ numbers todo) k ≤ 1
  todo_once k = omega (arith, once k)

  todo_low : (k : ℕ) → 1 ≤ count (todo_hook was ∷ []) k + count (row.0 ∷ numbers todo) k → was.first ≤ k
  todo_low k h = (linked k (omega (arith, h))).0

  mid_todo : Ring (next_of mid) (numbers todo) (todo_hook was)
  mid_todo =
      without_row was.first (next_of was) (next_of mid) [] (numbers todo) (todo_hook was) row.0 todo_once todo_low
      has.todo cutting

  alone : next_of mid row.0 ≡ row.0
  alone =
      is_alone was.first (next_of was) (next_of mid) [] (numbers todo) (todo_hook was) row.0 todo_once todo_low
      has.todo cutting

  -- a ring that has nothing to do with them stays
  mid_else : (hook : ℕ) (ws : List ℕ) →
      ((k : ℕ) → count (hook ∷ ws) k + count (todo_hook was ∷ row.0 ∷ []) k ≤ 1) →
      ((k : ℕ) → 1 ≤ count (hook ∷ ws) k → IsLinked was k) → Ring (next_of was) ws hook → Ring (next_of mid) ws hook
  mid_else hook ws apart in_it ring =
      ring_stays was.first (next_of was) (next_of mid) (todo_hook was) row.0 hook ws cutting
      (λ k h. (
        (in_it k h).0,
        differ (hook ∷ ws) (todo_hook was ∷ row.0 ∷ []) k (todo_hook was) apart h
            (counts_first (todo_hook was) (row.0 ∷ [])),
        differ (hook ∷ ws) (todo_hook was ∷ row.0 ∷ []) k row.0 apart h
            (counts_rest row.0 (todo_hook was) (row.0 ∷ []) (counts_first row.0 [])),
      ))
      ring

  now_else : (hook : ℕ) (ws : List ℕ) →
      ((k : ℕ) → count (hook ∷ ws) k + count (gone_hook was ∷ row.0 ∷ []) k ≤ 1) →
      ((k : ℕ) → 1 ≤ count (hook ∷ ws) k → IsLinked was k) → Ring (next_of mid) ws hook → Ring (next_of now) ws hook
  now_else hook ws apart in_it ring =
      ring_stays was.first (next_of mid) (next_of now) (gone_hook was) row.0 hook ws putting
      (λ k h. (
        (in_it k h).0,
        differ (hook ∷ ws) (gone_hook was ∷ row.0 ∷ []) k (gone_hook was) apart h
            (counts_first (gone_hook was) (row.0 ∷ [])),
        differ (hook ∷ ws) (gone_hook was ∷ row.0 ∷ []) k row.0 apart h
            (counts_rest row.0 (gone_hook was) (row.0 ∷ []) (counts_first row.0 [])),
      ))
      ring

  now_free : Ring (next_of now) r.free (free_hook was)
  now_free =
      now_else (free_hook was) r.free (λ k. omega (arith, once k)) (λ k h. linked k (omega (arith, h)))
      (mid_else (free_hook was) r.free (λ k. omega (arith, once k)) (λ k h. linked k (omega (arith, h))) has.free)

  now_named : Ring (next_of now) (numbers r.named) (named_hook was)
  now_named =
      now_else (named_hook was) (numbers r.named) (λ k. omega (arith, once k)) (λ k h. linked k (omega (arith, h)))
      (mid_else (named_hook was) (numbers r.named) (λ k. omega (arith, once k)) (λ k h. linked k (omega (arith, h)))
      has.named)

  now_todo : Ring (next_of now) (numbers todo) (todo_hook was)
  now_todo =
      now_else (todo_hook was) (numbers todo) (λ k. omega (arith, once k)) (λ k h. linked k (omega (arith, h))) mid_todo

  now_gone : Ring (next_of now) (row.0 ∷ numbers r.gone) (gone_hook was)
  now_gone =
      with_first was.first (next_of mid) (next_of now) (numbers r.gone) (gone_hook was) row.0
      (λ k. omega (arith, once k)) (λ k h. (linked k (omega (arith, h))).0)
      (mid_else (gone_hook was) (numbers r.gone) (λ k. omega (arith, once k)) (λ k h. linked k (omega (arith, h)))
      has.gone)
      alone putting

  all : AreKept was now
  all = kept_twice was mid now (kept was mid (todo_hook was) row.0 cut) (kept mid now (gone_hook was) row.0 put)

  row_mine : (was.first ≤ row.0) × (row.0 < was.first + was.rows)
  row_mine = has.mine row.0 (omega (arith, counts_first row.0 (numbers todo)))

  next_same : (k : ℕ) → next_of end k ≡ next_of now k
  next_same k = λ i. get_or (links i).items (k - same.first i) 0

  lost_then : (k : ℕ) → lost_of end k ≡ get_or (set now.lost.items (row.0 - now.first) now.sweeps) (k - now.first) 0
  lost_then k = λ i. get_or (written i) (k - same.first i) 0

  lost_row : lost_of end row.0 ≡ was.sweeps
  lost_row = lost_then row.0 ∙ written_here now.lost.items now.first row.0 now.sweeps wide ∙ all.sweeps

  lost_else : (k : ℕ) → was.first ≤ k → k ≢ row.0 → lost_of end k ≡ lost_of was k
  lost_else k low other =
      lost_then k
      ∙ written_there now.lost.items now.first row.0 k now.sweeps (omega (arith, row_mine, all.first))
      (omega (arith, low, all.first)) other
      ∙ lost_same was now all k

  links_then : (ws : List ℕ) (hook : ℕ) → Ring (next_of now) ws hook → Ring (next_of end) ws hook
  links_then ws hook ring = stays (next_of now) (next_of end) ws hook hook (λ k h. next_same k) ring

  sweeps_same : end.sweeps ≡ was.sweeps
  sweeps_same = same.sweeps ∙ all.sweeps

  buckets_then : (rows : List (ℕ × ℕ)) → HaveBuckets was rows → HaveBuckets end rows
  buckets_then rows h = buckets_same now (record end { lost = now.lost }) same rows (buckets_same was now all rows h)

  -- it waits to be free
  pub home_lost : HasRows end (record r { todo = todo; gone = row ∷ r.gone })
  home_lost =
      linked_anew was end before (record r { todo = todo; gone = row ∷ r.gone }) has (same.first ∙ all.first)
      (same.rows ∙ all.rows) (links_then r.free (free_hook was) now_free)
      (links_then (numbers r.named) (named_hook was) now_named)
      (links_then (numbers todo) (todo_hook was) now_todo)
      (links_then (row.0 ∷ numbers r.gone) (gone_hook was) now_gone)
      (λ k. omega arith) (buckets_then r.named has.named_buckets) (buckets_then todo has.todo_buckets.1)
      (has_first, buckets_then r.gone has.gone_buckets)
      (λ k h. generation_same now (record end { lost = now.lost }) same k ∙ generation_same was now all k
      ∙ has.generations k (omega (arith, h)))
      (omega (arith, has.counted, sweeps_same)) early late only
    where
      has_first : bucket_of end row.0 ≡ row.1
      has_first = (buckets_then (row ∷ []) (has.todo_buckets.0, tt)).0

      early : (k : ℕ) → was.first ≤ k → k < was.first + was.rows → lost_of end k ≤ end.sweeps
      early k low high = elim (cases_eq k row.0) [
        | inl is ↦ omega (arith, ap (lost_of end) is, lost_row, sweeps_same)
        | inr other ↦ omega (arith, lost_else k low other, has.early k low high, sweeps_same)
      ]

      late : (k : ℕ) → 1 ≤ count (row.0 ∷ numbers r.gone) k → lost_of end k ≡ end.sweeps
      late k h = elim (cases_eq k row.0) [
        | inl is ↦ ap (lost_of end) is ∙ lost_row ∙ sym sweeps_same
        | inr other ↦ (let there : 1 ≤ count (numbers r.gone) k =
            omega (arith, h, none_for row.0 k (λ e. other (sym e))) in
            lost_else k (has.mine k (omega (arith, there))).0 other ∙ has.late k there ∙ sym sweeps_same)
      ]

      only : (k : ℕ) → was.first ≤ k → k < was.first + was.rows → lost_of end k ≡ end.sweeps →
          1 ≤ count (row.0 ∷ numbers r.gone) k
      only k low high e = elim (cases_eq k row.0) [
        | inl is ↦ subst (λ (j : ℕ). 1 ≤ count (row.0 ∷ numbers r.gone) j) (sym is)
            (counts_first row.0 (numbers r.gone))
        | inr other ↦ counts_rest k row.0 (numbers r.gone)
            (has.only k low high (sym (lost_else k low other) ∙ e ∙ sweeps_same))
      ]
