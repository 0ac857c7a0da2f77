-- A row is cut out of one ring and put to the end of another.
use Rattle.std.proofs.Common.{◌≡◌, ◌≢◌, ℕ, ◌+◌, ◌≤◌, ◌∙◌, List, [], ◌∷◌, ◌++◌, sym, ap, subst, arith}
use Rattle.own_rows.specs.declared.rows.OwnRows.{OwnRows}
use Rattle.own_rows.specs.Rings.{Ring, count, last_of}
use Rattle.own_rows.specs.Rows.{AreMoved, AreSwapped, IsLinked, back_of, next_of}
use Rattle.own_rows.proofs.RingLemmas.{counts_both, counts_first, counts_last, differ, last_linked, stays}
use Rattle.own_rows.proofs.MoveLemmas.{Swap, is_alone, kept_apart, with_last, without_row}
use Rattle.own_rows.proofs.KeepLemmas.{AreKept, kept, kept_twice, swap_of, swap_then}

-- a ring in which neither number is stays
pub ring_stays : (first : ℕ) (old new : ℕ → ℕ) (a b : ℕ) (hook : ℕ) (xs : List ℕ) → Swap first old new a b →
    ((k : ℕ) → 1 ≤ count (hook ∷ xs) k → (first ≤ k) × (k ≢ a) × (k ≢ b)) → Ring old xs hook → Ring new xs hook
ring_stays first old new a b hook xs swap apart ring =
    stays old new xs hook hook (kept_apart first old new a b (hook ∷ xs) swap apart) ring

-- the last of a ring is linked back from its hook
pub last_back : (o : OwnRows) (xs : List ℕ) (hook : ℕ) → ((k : ℕ) → IsLinked o k → back_of o (next_of o k) ≡ k) →
    IsLinked o (last_of xs hook) → Ring (next_of o) xs hook → back_of o hook ≡ last_of xs hook
last_back o xs hook both linked ring =
    ap (back_of o) (sym (last_linked (next_of o) xs hook hook ring)) ∙ both (last_of xs hook) linked

module _ (was now : OwnRows) (here row there : ℕ) (xs ys zs : List ℕ)
    (once : (k : ℕ) → count (here ∷ (xs ++ row ∷ ys)) k + count (there ∷ zs) k ≤ 1)
    (linked : (k : ℕ) → 1 ≤ count (here ∷ (xs ++ row ∷ ys)) k + count (there ∷ zs) k → IsLinked was k)
    (from : Ring (next_of was) (xs ++ row ∷ ys) here) (to : Ring (next_of was) zs there)
    (moved : AreMoved was now (last_of xs here) row there) where
  split : (k : ℕ) → count (here ∷ (xs ++ row ∷ ys)) k ≡ count (here ∷ xs) k + count (row ∷ ys) k
  split k = omega (arith, counts_both k xs (row ∷ ys))

  cutting : Swap was.first (next_of was) (next_of moved.mid) (last_of xs here) row
  cutting = swap_of was moved.mid (last_of xs here) row moved.cut

  once_cut : (k : ℕ) → count (here ∷ xs) k + count (row ∷ ys) k ≤ 1
  once_cut k = omega (arith, once k, split k)

  low_cut : (k : ℕ) → 1 ≤ count (here ∷ xs) k + count (row ∷ ys) k → was.first ≤ k
  low_cut k h = (linked k (omega (arith, h, split k))).0

  mid_from : Ring (next_of moved.mid) (xs ++ ys) here
  mid_from = without_row was.first (next_of was) (next_of moved.mid) xs ys here row once_cut low_cut from cutting

  alone : next_of moved.mid row ≡ row
  alone = is_alone was.first (next_of was) (next_of moved.mid) xs ys here row once_cut low_cut from cutting

  in_from : (k : ℕ) → 1 ≤ count (here ∷ xs) k → 1 ≤ count (here ∷ (xs ++ row ∷ ys)) k
  in_from k h = omega (arith, h, split k)

  row_in : 1 ≤ count (here ∷ (xs ++ row ∷ ys)) row
  row_in = omega (arith, counts_first row ys, split row)

  mid_to : Ring (next_of moved.mid) zs there
  mid_to =
      ring_stays was.first (next_of was) (next_of moved.mid) (last_of xs here) row there zs cutting
      (λ k h. (
        (linked k (omega (arith, h))).0,
        λ e. differ (here ∷ (xs ++ row ∷ ys)) (there ∷ zs) (last_of xs here) k once
            (in_from (last_of xs here) (counts_last xs here)) h (sym e),
        λ e. differ (here ∷ (xs ++ row ∷ ys)) (there ∷ zs) row k once row_in h (sym e),
      ))
      to

  last_in : IsLinked was (last_of zs there)
  last_in = linked (last_of zs there) (omega (arith, counts_last zs there))

  last_is : back_of moved.mid there ≡ last_of zs there
  last_is =
      last_back moved.mid zs there moved.sound.both
      (omega (arith, last_in, moved.cut.first), omega (arith, last_in, moved.cut.first, moved.cut.rows)) mid_to

  putting : Swap was.first (next_of moved.mid) (next_of now) (last_of zs there) row
  putting =
      swap_then was moved.mid now (last_of zs there) row (kept was moved.mid (last_of xs here) row moved.cut)
      (subst (λ (k : ℕ). AreSwapped moved.mid now k row) last_is moved.put)

  one_row : (k : ℕ) → count (here ∷ (xs ++ ys)) k + count (row ∷ []) k ≡ count (here ∷ (xs ++ row ∷ ys)) k
  one_row k = omega (arith, counts_both k xs ys, split k)

  -- the ring without it
  pub now_from : Ring (next_of now) (xs ++ ys) here
  now_from =
      ring_stays was.first (next_of moved.mid) (next_of now) (last_of zs there) row here (xs ++ ys) putting
      (λ k h. (
        (linked k (omega (arith, h, one_row k))).0,
        differ (here ∷ (xs ++ row ∷ ys)) (there ∷ zs) k (last_of zs there) once (omega (arith, h, one_row k))
            (counts_last zs there),
        differ (here ∷ (xs ++ ys)) (row ∷ []) k row (λ i. omega (arith, one_row i, once i)) h (counts_first row []),
      ))
      mid_from

  -- the ring with it
  pub now_to : Ring (next_of now) (zs ++ row ∷ []) there
  now_to =
      with_last was.first (next_of moved.mid) (next_of now) zs there row
      (λ k. omega (arith, once k, one_row k)) (λ k h. (linked k (omega (arith, h))).0) mid_to alone putting

  -- and any other
  pub now_else : (hook : ℕ) (ws : List ℕ) →
      ((k : ℕ) → count (hook ∷ ws) k + (count (here ∷ (xs ++ row ∷ ys)) k + count (there ∷ zs) k) ≤ 1) →
      ((k : ℕ) → 1 ≤ count (hook ∷ ws) k → IsLinked was k) → Ring (next_of was) ws hook → Ring (next_of now) ws hook
  now_else hook ws apart linked_else ring =
      ring_stays was.first (next_of moved.mid) (next_of now) (last_of zs there) row hook ws putting
      (λ k h. (
        (linked_else k h).0,
        differ (hook ∷ ws) (there ∷ zs) k (last_of zs there) (λ i. omega (arith, apart i)) h (counts_last zs there),
        differ (hook ∷ ws) (here ∷ (xs ++ row ∷ ys)) k row (λ i. omega (arith, apart i)) h row_in,
      ))
      (ring_stays was.first (next_of was) (next_of moved.mid) (last_of xs here) row hook ws cutting
      (λ k h. (
        (linked_else k h).0,
        differ (hook ∷ ws) (here ∷ (xs ++ row ∷ ys)) k (last_of xs here) (λ i. omega (arith, apart i)) h
            (in_from (last_of xs here) (counts_last xs here)),
        differ (hook ∷ ws) (here ∷ (xs ++ row ∷ ys)) k row (λ i. omega (arith, apart i)) h row_in,
      ))
      ring)

  pub all_kept : AreKept was now
  all_kept =
      kept_twice was moved.mid now (kept was moved.mid (last_of xs here) row moved.cut)
      (kept moved.mid now (back_of moved.mid there) row moved.put)
