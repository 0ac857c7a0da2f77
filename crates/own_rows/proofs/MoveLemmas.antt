-- A row that is moved from one ring to another, and a ring that is put to the end of another.
use Rattle.std.proofs.Common.{◌≡◌, ◌≢◌, ℕ, ◌+◌, ◌≤◌, ◌∙◌, List, [], ◌∷◌, ◌++◌, sym, arith}
use Rattle.own_rows.specs.Rings.{Path, Ring, count, last_of}
use Rattle.own_rows.proofs.RingLemmas.{Stay, StayFront, counts_both, counts_first, counts_last, counts_rest, cut_out, differ, from_elsewhere, front_of, joined, last_linked, linked_on, rest_differs, to_elsewhere}

-- two links are swapped
pub record Swap (first : ℕ) (old new : ℕ → ℕ) (a b : ℕ) : Type 0 where
  pub one : new a ≡ old b
  pub other : new b ≡ old a
  pub rest : (k : ℕ) → first ≤ k → k ≢ a → k ≢ b → new k ≡ old k

-- a list keeps its links where neither number is in it
pub kept_apart : (first : ℕ) (old new : ℕ → ℕ) (a b : ℕ) (xs : List ℕ) → Swap first old new a b →
    ((k : ℕ) → 1 ≤ count xs k → (first ≤ k) × (k ≢ a) × (k ≢ b)) → Stay old new xs
kept_apart first old new a b xs swap apart k h =
    let p = apart k h in swap.rest k p.0 p.1 p.2

-- a row is cut out of its ring
module _ (first : ℕ) (old new : ℕ → ℕ) (xs ys : List ℕ) (hook row : ℕ)
    (once : (k : ℕ) → count (hook ∷ xs) k + count (row ∷ ys) k ≤ 1)
    (low : (k : ℕ) → 1 ≤ count (hook ∷ xs) k + count (row ∷ ys) k → first ≤ k)
    (ring : Ring old (xs ++ row ∷ ys) hook) (swap : Swap first old new (last_of xs hook) row) where
  -- the row stands alone then
  pub is_alone : new row ≡ row
  is_alone = swap.other ∙ last_linked old xs hook row (front_of old xs ys hook row hook ring)

  front : StayFront old new xs hook
  front k h d =
      swap.rest k (low k (omega (arith, h))) d
      (differ (hook ∷ xs) (row ∷ ys) k row once h (counts_first row ys))

  behind : Stay old new ys
  behind k h =
      swap.rest k (low k (omega (arith, h)))
      (λ e. differ (hook ∷ xs) (row ∷ ys) (last_of xs hook) k once (counts_last xs hook) (counts_rest k row ys h)
      (sym e))
      (rest_differs row k ys (omega (arith, once row)) h)

  -- and the ring is without it
  pub without_row : Ring new (xs ++ ys) hook
  without_row = cut_out old new xs ys hook row hook (λ k. omega (arith, once k)) swap.one front behind ring

-- a row that stands alone is put to the end of a ring
module _ (first : ℕ) (old new : ℕ → ℕ) (ys : List ℕ) (hook row : ℕ)
    (once : (k : ℕ) → count (hook ∷ ys) k + count (row ∷ []) k ≤ 1)
    (low : (k : ℕ) → 1 ≤ count (hook ∷ ys) k → first ≤ k)
    (ring : Ring old ys hook) (alone : old row ≡ row) (swap : Swap first old new (last_of ys hook) row) where
  pub with_last : Ring new (ys ++ row ∷ []) hook
  with_last =
      joined new ys [] hook row hook
      (to_elsewhere old new ys hook hook row (λ k. omega (arith, once k)) (swap.one ∙ alone)
      (λ k h d. swap.rest k (low k h) d (differ (hook ∷ ys) (row ∷ []) k row once h (counts_first row [])))
      ring)
      (swap.other ∙ last_linked old ys hook hook ring)

-- or to its beginning
module _ (first : ℕ) (old new : ℕ → ℕ) (ys : List ℕ) (hook row : ℕ)
    (once : (k : ℕ) → count (hook ∷ ys) k + count (row ∷ []) k ≤ 1)
    (low : (k : ℕ) → 1 ≤ count (hook ∷ ys) k → first ≤ k)
    (ring : Ring old ys hook) (alone : old row ≡ row) (swap : Swap first old new hook row) where
  pub with_first : Ring new (row ∷ ys) hook
  with_first = (
    swap.one ∙ alone,
    from_elsewhere old new ys hook row hook swap.other
        (λ k h. swap.rest k (low k (counts_rest k hook ys h))
        (rest_differs hook k ys (omega (arith, once hook)) h)
        (differ (hook ∷ ys) (row ∷ []) k row once (counts_rest k hook ys h) (counts_first row [])))
        ring,
  )

-- a ring is put to the end of another, and its hook stands alone then
module _ (first : ℕ) (old mid new : ℕ → ℕ) (xs ys : List ℕ) (one two : ℕ)
    (once : (k : ℕ) → count (one ∷ xs) k + count (two ∷ ys) k ≤ 1)
    (low : (k : ℕ) → 1 ≤ count (one ∷ xs) k + count (two ∷ ys) k → first ≤ k)
    (ring : Ring old xs one) (more : Ring old ys two) (swap : Swap first old mid (last_of xs one) two) where
  reaches : Path mid (xs ++ ys) one two
  reaches =
      linked_on old mid xs ys one one two (λ k. omega (arith, once k)) swap.one
      (λ k h d. swap.rest k (low k (omega (arith, h))) d
      (differ (one ∷ xs) (two ∷ ys) k two once h (counts_first two ys)))
      (λ k h. swap.rest k (low k (omega (arith, counts_rest k two ys h)))
      (λ e. differ (one ∷ xs) (two ∷ ys) (last_of xs one) k once (counts_last xs one) (counts_rest k two ys h)
      (sym e))
      (rest_differs two k ys (omega (arith, once two)) h))
      ring more

  -- the last of both is linked to it
  pub last_reaches : mid (last_of (xs ++ ys) one) ≡ two
  last_reaches = last_linked mid (xs ++ ys) one two reaches

  module _ (again : Swap first mid new (last_of (xs ++ ys) one) two) where
    both : (k : ℕ) → count (one ∷ (xs ++ ys)) k + count (two ∷ []) k ≤ 1
    both k = omega (arith, once k, counts_both k xs ys)

    pub joined_ring : Ring new (xs ++ ys) one
    joined_ring =
        to_elsewhere mid new (xs ++ ys) one two one (λ k. omega (arith, both k))
        (again.one ∙ swap.other ∙ last_linked old xs one one ring)
        (λ k h d. again.rest k (low k (omega (arith, h, counts_both k xs ys))) d
        (differ (one ∷ (xs ++ ys)) (two ∷ []) k two both h (counts_first two [])))
        reaches

    pub left_alone : Ring new [] two
    left_alone = again.other ∙ last_reaches
