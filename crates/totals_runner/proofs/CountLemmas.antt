-- Counts that are added seat by seat.
use Rattle.std.proofs.Common.{◌≡◌, ℕ, ◌<◌, ◌≤◌, ◌+◌, ◌^◌, List, length, take, ap, ◌∙◌, arith}
use Rattle.std.specs.Prelude.{All, slice_index}
use Rattle.std.proofs.lemmas.List.Elements.{All-get_or}
use Rattle.batch_history.specs.Batches.{with_counts}
use Rattle.batch_history.proofs.AddedCounts.{not_yet}

-- which fits
pub next_fits : (before counts now : List ℕ) (i : ℕ) → now ≡ with_counts before (take i counts) →
    i < length before → i < length counts → ((seat : ℕ) → seat < length counts → slice_index before seat ≤ 4000000) →
    All (λ count. count ≤ 4000000) counts → slice_index now i + slice_index counts i < 2 ^ 32
next_fits before counts now i is inside within few more =
    let same : slice_index now i ≡ slice_index before i =
    ap (λ (xs : List ℕ). slice_index xs i) is ∙ not_yet before counts i i (omega arith) in
    omega (arith, same, few i within, All-get_or (λ count. count ≤ 4000000) counts i 0 within more)
