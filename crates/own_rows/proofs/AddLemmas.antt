-- A row that is alone is put to a list, when a table is opened.
use Rattle.std.proofs.Common.{◌≡◌, ◌≢◌, ℕ, ◌+◌, ◌-◌, ◌<◌, ◌≤◌, ◌∙◌, List, [], ◌∷◌, ◌++◌, length, get_or, set, refl, inl, inr, sym, ap, subst, arith}
use Rattle.std.proofs.lemmas.Bool.{cases_eq}
use Rattle.list_laws.proofs.Totals.{each-append}
use Rattle.own_rows.specs.declared.rows.OwnRows.{OwnRows}
use Rattle.own_rows.specs.Opening.{IsUnused}
use Rattle.own_rows.specs.Rings.{Ring, count, last_of, numbers}
use Rattle.own_rows.specs.Rows.{AreSwapped, HasRows, HaveBuckets, IsSound, Rows, back_of, bucket_of, free_hook, generation_of, gone_hook, lost_of, named_hook, next_of, times, todo_hook}
use Rattle.own_rows.proofs.RingLemmas.{counts_both, counts_first, counts_last, differ, last_linked, none_for, one_for, stays}
use Rattle.own_rows.proofs.MoveLemmas.{with_last}
use Rattle.own_rows.proofs.KeepLemmas.{AreKept, bucket_same, counts_numbers, generation_same, kept, linked_from, lost_same, numbers_both, ringed, ringed_linked, ringed_once, swap_of, written_here, written_there}
use Rattle.own_rows.proofs.MovedLemmas.{last_back, ring_stays}

-- the last of a ring, as it is found
pub last_found : (o : OwnRows) (r : Rows) (xs : List ℕ) (hook : ℕ) → IsSound o → HasRows o r →
    ((k : ℕ) → count (hook ∷ xs) k ≤ ringed o r k) → Ring (next_of o) xs hook → back_of o hook ≡ last_of xs hook
last_found o r xs hook sound has less ring =
    last_back o xs hook sound.both
    (ringed_linked o r has (last_of xs hook) (omega (arith, less (last_of xs hook), counts_last xs hook))) ring

module _ (was now : OwnRows) (r : Rows) (row : ℕ) (xs : List ℕ) (hook : ℕ) (has : HasRows was r)
    (less : (k : ℕ) → count (hook ∷ xs) k ≤ ringed was r k) (ring : Ring (next_of was) xs hook)
    (put : AreSwapped was now (last_of xs hook) row) where
  -- what is alone is not the last of the ring
  pub alone_still : hook ≡ hook → (k : ℕ) → was.first ≤ k → k < was.first + was.rows → was.first + was.rows ≤ hook →
      k ≢ row → next_of was k ≡ k → next_of now k ≡ k
  alone_still same k low high far other alone =
      put.rest k low
      (λ e. omega (arith, far, high, alone, ap (next_of was) e, last_linked (next_of was) xs hook hook ring)) other
      ∙ alone

  module _ (unused : IsUnused was r row) where
    none_there : (k : ℕ) → ringed was r k + count (row ∷ []) k ≤ 1
    none_there k = elim (cases_eq row k) [
      | inl is ↦ omega (arith, once_row is)
      | inr other ↦ omega (arith, none_for row k other, ringed_once was r has k)
    ]
      where
        hooks_far : ringed was r row ≡ times r row
        hooks_far =
            omega (
              arith,
              none_for (free_hook was) row (λ e. omega (arith, e, unused.high)),
              none_for (named_hook was) row (λ e. omega (arith, e, unused.high)),
              none_for (todo_hook was) row (λ e. omega (arith, e, unused.high)),
              none_for (gone_hook was) row (λ e. omega (arith, e, unused.high)),
            )

        once_row : row ≡ k → ringed was r k + count (row ∷ []) k ≤ 1
        once_row is =
            subst (λ (j : ℕ). ringed was r j + count (row ∷ []) j ≤ 1) is
            (omega (arith, hooks_far, unused.new, one_for row row refl))

    pub ring_with : Ring (next_of now) (xs ++ row ∷ []) hook
    ring_with =
        with_last was.first (next_of was) (next_of now) xs hook row (λ k. omega (arith, less k, none_there k))
        (λ k h. (ringed_linked was r has k (omega (arith, less k, h))).0) ring unused.alone
        (swap_of was now (last_of xs hook) row put)

    pub ring_without : (other : ℕ) (ys : List ℕ) →
        ((k : ℕ) → count (other ∷ ys) k + count (hook ∷ xs) k ≤ ringed was r k) → Ring (next_of was) ys other →
        Ring (next_of now) ys other
    ring_without other ys apart there =
        ring_stays was.first (next_of was) (next_of now) (last_of xs hook) row other ys
        (swap_of was now (last_of xs hook) row put)
        (λ k h. (
          (ringed_linked was r has k (omega (arith, apart k, h))).0,
          differ (other ∷ ys) (hook ∷ xs) k (last_of xs hook)
              (λ i. omega (arith, apart i, ringed_once was r has i)) h (counts_last xs hook),
          differ (other ∷ ys) (row ∷ []) k row (λ i. omega (arith, apart i, none_there i)) h (counts_first row []),
        ))
        there

    pub once_with : (k : ℕ) → times r k + count (row ∷ []) k ≤ 1
    once_with k = omega (arith, none_there k)

    pub mine_with : (k : ℕ) → 1 ≤ times r k + count (row ∷ []) k → (was.first ≤ k) × (k < was.first + was.rows)
    mine_with k h = elim (cases_eq row k) [
      | inl is ↦ subst (λ (j : ℕ). (was.first ≤ j) × (j < was.first + was.rows)) is (unused.low, unused.high)
      | inr other ↦ has.mine k (omega (arith, h, none_for row k other))
    ]

    pub generation_with : (k : ℕ) → 1 ≤ times r k + count (row ∷ []) k → generation_of was k ≡ r.generation k
    generation_with k h = elim (cases_eq row k) [
      | inl is ↦ subst (λ (j : ℕ). generation_of was j ≡ r.generation j) is unused.generation
      | inr other ↦ has.generations k (omega (arith, h, none_for row k other))
    ]

-- a row more is free
pub row_freed : (was now : OwnRows) (r : Rows) (row : ℕ) → HasRows was r → IsUnused was r row →
    AreSwapped was now (last_of r.free (free_hook was)) row → HasRows now (record r { free = r.free ++ row ∷ [] })
row_freed was now r row has unused put =
    linked_from was now (record r { free = r.free ++ row ∷ [] }) put.first put.rows
    (ring_with was now r row r.free (free_hook was) has (λ k. omega arith) has.free put unused)
    (ring_without was now r row r.free (free_hook was) has (λ k. omega arith) has.free put unused (named_hook was)
    (numbers r.named) (λ k. omega arith) has.named)
    (ring_without was now r row r.free (free_hook was) has (λ k. omega arith) has.free put unused (todo_hook was)
    (numbers r.todo) (λ k. omega arith) has.todo)
    (ring_without was now r row r.free (free_hook was) has (λ k. omega arith) has.free put unused (gone_hook was)
    (numbers r.gone) (λ k. omega arith) has.gone)
    (λ k. omega (
      arith,
      more k,
      once_with was now r row r.free (free_hook was) has (λ j. omega arith) has.free put unused k,
    ))
    (λ k h. mine_with was now r row r.free (free_hook was) has (λ j. omega arith) has.free put unused k
    (omega (arith, more k, h)))
    (same_buckets r.named has.named_buckets) (same_buckets r.todo has.todo_buckets)
    (same_buckets r.gone has.gone_buckets)
    (λ k h. generation_same was now all k
    ∙ generation_with was now r row r.free (free_hook was) has (λ j. omega arith) has.free put unused k
    (omega (arith, more k, h)))
    (omega (arith, has.counted, all.sweeps))
    (λ k low high. omega (arith, lost_same was now all k, has.early k low high, all.sweeps))
    (λ k h. lost_same was now all k ∙ has.late k h ∙ sym all.sweeps)
    (λ k low high e. has.only k low high (sym (lost_same was now all k) ∙ e ∙ all.sweeps))
  where
    all : AreKept was now
    all = kept was now (last_of r.free (free_hook was)) row put

    more : (k : ℕ) → times (record r { free = r.free ++ row ∷ [] }) k ≡ times r k + count (row ∷ []) k
    more k = omega (arith, counts_both k r.free (row ∷ []))

    same_buckets : (rows : List (ℕ × ℕ)) → HaveBuckets was rows → HaveBuckets now rows
    same_buckets [] h = tt
    same_buckets (x ∷ rows) h = (bucket_same was now all x.0 ∙ h.0, same_buckets rows h.1)

-- a row more is named
pub row_named : (was now end : OwnRows) (r : Rows) (row bucket : ℕ) → HasRows was r → IsUnused was r row →
    AreSwapped was now (last_of (numbers r.named) (named_hook was)) row →
    AreKept now (record end { buckets = now.buckets }) → end.next ≡ now.next →
    row - now.first < length now.buckets.items →
    end.buckets.items ≡ set now.buckets.items (row - now.first) bucket →
    HasRows end (record r { named = r.named ++ (row, bucket) ∷ [] })
row_named was now end r row bucket has unused put same links wide written =
    linked_from was end (record r { named = r.named ++ (row, bucket) ∷ [] }) (same.first ∙ put.first)
    (same.rows ∙ put.rows)
    (there r.free (free_hook was)
    (ring_without was now r row (numbers r.named) (named_hook was) has (λ k. omega arith) has.named put unused
    (free_hook was) r.free (λ k. omega arith) has.free))
    (subst (λ (ns : List ℕ). Ring (next_of end) ns (named_hook was)) (sym (numbers_both r.named ((row, bucket) ∷ [])))
    (there (numbers r.named ++ row ∷ []) (named_hook was)
    (ring_with was now r row (numbers r.named) (named_hook was) has (λ k. omega arith) has.named put unused)))
    (there (numbers r.todo) (todo_hook was)
    (ring_without was now r row (numbers r.named) (named_hook was) has (λ k. omega arith) has.named put unused
    (todo_hook was) (numbers r.todo) (λ k. omega arith) has.todo))
    (there (numbers r.gone) (gone_hook was)
    (ring_without was now r row (numbers r.named) (named_hook was) has (λ k. omega arith) has.named put unused
    (gone_hook was) (numbers r.gone) (λ k. omega arith) has.gone))
    (λ k. omega (
      arith,
      more k,
      once_with was now r row (numbers r.named) (named_hook was) has (λ j. omega arith) has.named put unused k,
    ))
    (λ k h. mine_with was now r row (numbers r.named) (named_hook was) has (λ j. omega arith) has.named put unused k
    (omega (arith, more k, h)))
    (each-append (λ other. bucket_of end other.0 ≡ other.1) r.named ((row, bucket) ∷ [])
    (same_buckets r.named (λ k. omega arith) has.named_buckets) (bucket_row, tt))
    (same_buckets r.todo (λ k. omega arith) has.todo_buckets) (same_buckets r.gone (λ k. omega arith) has.gone_buckets)
    (λ k h. generation_same now (record end { buckets = now.buckets }) same k ∙ generation_same was now all k
    ∙ generation_with was now r row (numbers r.named) (named_hook was) has (λ j. omega arith) has.named put unused k
    (omega (arith, more k, h)))
    (omega (arith, has.counted, all.sweeps, same.sweeps))
    (λ k low high. omega (arith, lost_is k, has.early k low high, all.sweeps, same.sweeps))
    (λ k h. lost_is k ∙ has.late k h ∙ sym all.sweeps ∙ sym same.sweeps)
    (λ k low high e. has.only k low high (sym (lost_is k) ∙ e ∙ same.sweeps ∙ all.sweeps))
  where
    all : AreKept was now
    all = kept was now (last_of (numbers r.named) (named_hook was)) row put

    more : (k : ℕ) → times (record r { named = r.named ++ (row, bucket) ∷ [] }) k ≡ times r k + count (row ∷ []) k
    more k = omega (arith, counts_numbers r.named ((row, bucket) ∷ []) k)

    there : (ws : List ℕ) (hook : ℕ) → Ring (next_of now) ws hook → Ring (next_of end) ws hook
    there ws hook ring =
        stays (next_of now) (next_of end) ws hook hook
        (λ k h. λ i. get_or (links i).items (k - same.first i) 0) ring

    lost_is : (k : ℕ) → lost_of end k ≡ lost_of was k
    lost_is k = lost_same now (record end { buckets = now.buckets }) same k ∙ lost_same was now all k

    bucket_then : (k : ℕ) → bucket_of end k ≡ get_or (set now.buckets.items (row - now.first) bucket) (k - now.first) 0
    bucket_then k = λ i. get_or (written i) (k - same.first i) 0

    bucket_row : bucket_of end row ≡ bucket
    bucket_row = bucket_then row ∙ written_here now.buckets.items now.first row bucket wide

    same_buckets : (rows : List (ℕ × ℕ)) → ((k : ℕ) → count (numbers rows) k ≤ times r k) → HaveBuckets was rows →
        HaveBuckets end rows
    same_buckets [] less h = tt
    same_buckets (x ∷ rows) less h = (
      bucket_then x.0
          ∙ written_there now.buckets.items now.first row x.0 bucket (omega (arith, unused.low, all.first))
          (omega (arith, all.first, has.mine x.0 (omega (arith, less x.0, counts_first x.0 (numbers rows)))))
          (λ e. omega (arith, unused.new, ap (times r) e, less x.0, counts_first x.0 (numbers rows)))
          ∙ bucket_same was now all x.0 ∙ h.0,
      same_buckets rows (λ k. omega (arith, less k)) h.1,
    )
