-- The first free row is published.
use Rattle.std.proofs.Common.{◌≡◌, ◌≢◌, ℕ, ◌+◌, ◌-◌, ◌<◌, ◌≤◌, ◌∙◌, List, [], ◌∷◌, ◌++◌, length, get_or, set, refl, inl, inr, sym, ap, subst, arith}
use Rattle.std.proofs.lemmas.Bool.{cases_eq}
use Rattle.list_laws.proofs.Totals.{each-append}
use Rattle.own_rows.specs.declared.rows.OwnRows.{OwnRows}
use Rattle.own_rows.specs.Rings.{Ring, count, numbers}
use Rattle.own_rows.specs.Rows.{AreMoved, HasRows, HaveBuckets, IsLinked, Rows, bucket_of, free_hook, generation_of, gone_hook, lost_of, named_hook, next_of, times, todo_hook}
use Rattle.own_rows.proofs.RingLemmas.{counts_first, one_for, stays}
use Rattle.own_rows.proofs.KeepLemmas.{AreKept, bucket_same, counts_numbers, generation_same, linked_anew, lost_same, numbers_both, ringed, ringed_linked, ringed_once, written_here, written_there}
use Rattle.own_rows.proofs.MovedLemmas.{all_kept, now_else, now_from, now_to}

module _ (was now end : OwnRows) (r : Rows) (row : ℕ) (free : List ℕ) (bucket published : ℕ) (g : ℕ → ℕ)
    (has : HasRows was (record r { free = row ∷ free }))
    (moved : AreMoved was now (free_hook was) row (named_hook was))
    (same : AreKept now (record end { buckets = now.buckets; generations = now.generations }))
    (links : end.next ≡ now.next) (wide : row - now.first < length now.buckets.items)
    (long : row - now.first < length now.generations.items)
    (written : end.buckets.items ≡ set now.buckets.items (row - now.first) bucket)
    (counted : end.generations.items ≡ set now.generations.items (row - now.first) published)
    (then : g row ≡ published) (else_ : (k : ℕ) → k ≢ row → g k ≡ r.generation k) where
  abbrev before : Rows
  before = record r { free = row ∷ free }

  once : (k : ℕ) → ringed was before k ≤ 1
  once = ringed_once was before has

  in_it : (k : ℕ) → 1 ≤ ringed was before k → IsLinked was k
  in_it = ringed_linked was before has

  two_once : (k : ℕ) → count (free_hook was ∷ (row ∷ free)) k + count (named_hook was ∷ numbers r.named) k ≤ 1
  two_once k = omega (arith, once k)

  two_linked : (k : ℕ) → 1 ≤ count (free_hook was ∷ (row ∷ free)) k + count (named_hook was ∷ numbers r.named) k →
      IsLinked was k
  two_linked k h = in_it k (omega (arith, h))

  all : AreKept was now
  all =
      all_kept was now (free_hook was) row (named_hook was) [] free (numbers r.named) two_once two_linked has.free
      has.named moved

  other_stays : (hook : ℕ) (ws : List ℕ) →
      ((k : ℕ) → count (hook ∷ ws) k
      + (count (free_hook was ∷ (row ∷ free)) k + count (named_hook was ∷ numbers r.named) k) ≤ 1) →
      ((k : ℕ) → 1 ≤ count (hook ∷ ws) k → IsLinked was k) → Ring (next_of was) ws hook → Ring (next_of now) ws hook
  other_stays =
      now_else was now (free_hook was) row (named_hook was) [] free (numbers r.named) two_once two_linked has.free
      has.named moved

  links_then : (ws : List ℕ) (hook : ℕ) → Ring (next_of now) ws hook → Ring (next_of end) ws hook
  links_then ws hook ring =
      stays (next_of now) (next_of end) ws hook hook
      (λ k h. λ i. get_or (links i).items (k - same.first i) 0) ring

  row_mine : (was.first ≤ row) × (row < was.first + was.rows)
  row_mine = has.mine row (omega (arith, counts_first row free))

  bucket_then : (k : ℕ) → bucket_of end k ≡ get_or (set now.buckets.items (row - now.first) bucket) (k - now.first) 0
  bucket_then k = λ i. get_or (written i) (k - same.first i) 0

  bucket_row : bucket_of end row ≡ bucket
  bucket_row = bucket_then row ∙ written_here now.buckets.items now.first row bucket wide

  bucket_else : (k : ℕ) → was.first ≤ k → k ≢ row → bucket_of end k ≡ bucket_of was k
  bucket_else k low other =
      bucket_then k
      ∙ written_there now.buckets.items now.first row k bucket (omega (arith, row_mine, all.first))
      (omega (arith, low, all.first)) other
      ∙ bucket_same was now all k

  generation_then : (k : ℕ) →
      generation_of end k ≡ get_or (set now.generations.items (row - now.first) published) (k - now.first) 0
  generation_then k = λ i. get_or (counted i) (k - same.first i) 0

  generation_row : generation_of end row ≡ published
  generation_row = generation_then row ∙ written_here now.generations.items now.first row published long

  generation_else : (k : ℕ) → was.first ≤ k → k ≢ row → generation_of end k ≡ generation_of was k
  generation_else k low other =
      generation_then k
      ∙ written_there now.generations.items now.first row k published (omega (arith, row_mine, all.first))
      (omega (arith, low, all.first)) other
      ∙ generation_same was now all k

  -- rows beside it have their buckets still
  buckets_then : (rows : List (ℕ × ℕ)) → ((k : ℕ) → count (numbers rows) k ≤ times before k) →
      count (numbers rows) row ≡ 0 → HaveBuckets was rows → HaveBuckets end rows
  buckets_then [] less none h = tt
  buckets_then (x ∷ rows) less none h = (
    bucket_else x.0 (has.mine x.0 (omega (arith, less x.0, counts_first x.0 (numbers rows)))).0
        (λ e. omega (arith, none, one_for x.0 row e))
        ∙ h.0,
    buckets_then rows (λ k. omega (arith, less k)) (omega (arith, none)) h.1,
  )

  row_once : count free row + count (numbers r.named) row + count (numbers r.todo) row + count (numbers r.gone) row ≡ 0
  row_once = omega (arith, has.once row, one_for row row refl)

  times_same : (k : ℕ) →
      times (record r { generation = g; free = free; named = r.named ++ (row, bucket) ∷ [] }) k ≡ times before k
  times_same k = omega (arith, counts_numbers r.named ((row, bucket) ∷ []) k)

  sweeps_same : end.sweeps ≡ was.sweeps
  sweeps_same = same.sweeps ∙ all.sweeps

  lost_then : (k : ℕ) → lost_of end k ≡ lost_of was k
  lost_then k =
      lost_same now (record end { buckets = now.buckets; generations = now.generations }) same k
      ∙ lost_same was now all k

  pub row_published : HasRows end (record r { generation = g; free = free; named = r.named ++ (row, bucket) ∷ [] })
  row_published =
      linked_anew was end before (record r { generation = g; free = free; named = r.named ++ (row, bucket) ∷ [] }) has
      (same.first ∙ all.first) (same.rows ∙ all.rows)
      (links_then free (free_hook was)
      (now_from was now (free_hook was) row (named_hook was) [] free (numbers r.named) two_once two_linked has.free
      has.named moved))
      (subst (λ (ns : List ℕ). Ring (next_of end) ns (named_hook was))
      (sym (numbers_both r.named ((row, bucket) ∷ [])))
      (links_then (numbers r.named ++ row ∷ []) (named_hook was)
      (now_to was now (free_hook was) row (named_hook was) [] free (numbers r.named) two_once two_linked has.free
      has.named moved)))
      (links_then (numbers r.todo) (todo_hook was)
      (other_stays (todo_hook was) (numbers r.todo) (λ k. omega (arith, once k)) (λ k h. in_it k (omega (arith, h)))
      has.todo))
      (links_then (numbers r.gone) (gone_hook was)
      (other_stays (gone_hook was) (numbers r.gone) (λ k. omega (arith, once k)) (λ k h. in_it k (omega (arith, h)))
      has.gone))
      times_same
      (each-append (λ other. bucket_of end other.0 ≡ other.1) r.named ((row, bucket) ∷ [])
      (buckets_then r.named (λ k. omega arith) (omega (arith, row_once)) has.named_buckets) (bucket_row, tt))
      (buckets_then r.todo (λ k. omega arith) (omega (arith, row_once)) has.todo_buckets)
      (buckets_then r.gone (λ k. omega arith) (omega (arith, row_once)) has.gone_buckets)
      generations (omega (arith, has.counted, sweeps_same))
      (λ k low high. omega (arith, lost_then k, has.early k low high, sweeps_same))
      (λ k h. lost_then k ∙ has.late k h ∙ sym sweeps_same)
      (λ k low high e. has.only k low high (sym (lost_then k) ∙ e ∙ sweeps_same))
    where
      generations : (k : ℕ) →
          1 ≤ times (record r { generation = g; free = free; named = r.named ++ (row, bucket) ∷ [] }) k →
          generation_of end k ≡ g k
      generations k h = elim (cases_eq k row) [
        | inl is ↦ ap (generation_of end) is ∙ generation_row ∙ sym then ∙ ap g (sym is)
        | inr other ↦ (let there : 1 ≤ times before k = omega (arith, h, times_same k) in
            generation_else k (has.mine k there).0 other ∙ has.generations k there ∙ sym (else_ k other))
      ]
