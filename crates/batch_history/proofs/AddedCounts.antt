-- Counts that are added seat by seat.
use Rattle.std.proofs.Common.{◌≡◌, ℕ, List, [], ◌∷◌, refl, suc, zero, ◌≤◌, take, ap, arith, ◌<◌, ◌+◌, length, set, sym, ◌∙◌}
use Rattle.std.specs.Prelude.{slice_index}
use Rattle.batch_history.specs.Batches.{with_counts}

-- none more
pub with_none : (before : List ℕ) → with_counts before [] ≡ before
with_none [] = refl
with_none (b ∷ before) = refl

-- those that have not come yet stand as they stood
pub not_yet : (before counts : List ℕ) (i j : ℕ) → i ≤ j →
    slice_index (with_counts before (take i counts)) j ≡ slice_index before j
not_yet before counts zero j later = ap (λ xs. slice_index xs j) (with_none before)
not_yet before [] (suc i) j later = ap (λ xs. slice_index xs j) (with_none before)
not_yet [] (c ∷ counts) (suc i) zero later = absurd (omega (arith, later))
not_yet [] (c ∷ counts) (suc i) (suc j) later = not_yet [] counts i j (omega (arith, later))
not_yet (b ∷ before) (c ∷ counts) (suc i) zero later = absurd (omega (arith, later))
not_yet (b ∷ before) (c ∷ counts) (suc i) (suc j) later = not_yet before counts i j (omega (arith, later))

-- one more
pub one_more : (before counts : List ℕ) (i c : ℕ) → i < length before → i < length counts → slice_index counts i ≡ c →
    set (with_counts before (take i counts)) i (slice_index (with_counts before (take i counts)) i + c)
    ≡ with_counts before (take (suc i) counts)
one_more [] counts i c inside within is = absurd (omega (arith, inside))
one_more (b ∷ before) [] i c inside within is = absurd (omega (arith, within))
one_more (b ∷ before) (d ∷ counts) zero c inside within is =
    (λ i. (b + sym is i) ∷ sym (with_none before) i)
one_more (b ∷ before) (d ∷ counts) (suc i) c inside within is =
    ap (λ xs. (b + d) ∷ xs) (one_more before counts i c (omega (arith, inside)) (omega (arith, within)) is)

-- so is the count of one seat more, where those before it are added
pub with_next : (before counts now : List ℕ) (i : ℕ) → now ≡ with_counts before (take i counts) →
    i < length before → i < length counts →
    set now i (slice_index now i + slice_index counts i) ≡ with_counts before (take (i + 1) counts)
with_next before counts now i is inside within =
    let next : suc i ≡ i + 1 = omega arith in
    ap (λ (xs : List ℕ). set xs i (slice_index xs i + slice_index counts i)) is
    ∙ one_more before counts i (slice_index counts i) inside within refl
    ∙ ap (λ (k : ℕ). with_counts before (take k counts)) next
