-- Counts that are added seat by seat.
use Rattle.std.proofs.Common.{◌≡◌, ℕ, ◌<◌, ◌≤◌, ◌+◌, ◌^◌, List, [], ◌∷◌, length, take, ap, ◌∙◌, arith}
use Rattle.std.specs.Prelude.{All, slice_index}
use Rattle.std.proofs.lemmas.List.Elements.{All-cons, All-head, All-tail, All-get_or, All-weaker}
use Rattle.batch_rows.specs.declared.rows.TheConstants.{CALL_LIMIT}
use Rattle.batch_history.specs.Batches.{with_counts}
use Rattle.batch_history.proofs.AddedCounts.{not_yet}
use Rattle.batch_runner.specs.Printed.{BEFORE_LIMIT}

-- which fits
pub next_fits : (before counts now : List ℕ) (i : ℕ) → now ≡ with_counts before (take i counts) →
    i < length before → i < length counts → All (λ count. count ≤ BEFORE_LIMIT) before →
    All (λ count. count < CALL_LIMIT) counts → slice_index now i + slice_index counts i < 2 ^ 32
next_fits before counts now i is inside within few more =
    let same : slice_index now i ≡ slice_index before i =
    ap (λ (xs : List ℕ). slice_index xs i) is ∙ not_yet before counts i i (omega arith) in
    omega (
      arith,
      same,
      All-get_or (λ count. count ≤ BEFORE_LIMIT) before i 0 inside few,
      All-get_or (λ count. count < CALL_LIMIT) counts i 0 within more,
    )

-- the most of both together
pub most_with : (before counts : List ℕ) (most more : ℕ) → All (λ count. count ≤ most) before →
    All (λ count. count ≤ more) counts → All (λ count. count ≤ most + more) (with_counts before counts)
most_with [] counts most more a b =
    All-weaker (λ count. count ≤ more) (λ count. count ≤ most + more) (λ count few. omega (arith, few)) counts b
most_with (x ∷ before) [] most more a b =
    All-weaker (λ count. count ≤ most) (λ count. count ≤ most + more) (λ count few. omega (arith, few)) (x ∷ before) a
most_with (x ∷ before) (y ∷ counts) most more a b =
    All-cons (λ count. count ≤ most + more) (x + y) (with_counts before counts)
    (omega (arith, All-head (λ count. count ≤ most) x before a, All-head (λ count. count ≤ more) y counts b))
    (most_with before counts most more (All-tail (λ count. count ≤ most) x before a)
    (All-tail (λ count. count ≤ more) y counts b))
