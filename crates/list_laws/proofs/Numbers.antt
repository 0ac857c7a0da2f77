-- Sums with one more, and ranges.
use Rattle.std.proofs.Common.{◌≡◌, ℕ, zero, suc, ◌+◌, [], ◌∷◌, ◌++◌, ap, ◌∙◌, arith}
use Rattle.std.specs.List.{range_with_len}

-- nothing more is the same
pub plus_none : (n : ℕ) → n ≡ n + 0
plus_none n = omega arith

-- one more on either side is the same
pub plus_suc : (m n : ℕ) → m + 1 + n ≡ m + suc n
plus_suc m n = omega arith

-- a range that is longer by one ends with the next number
pub range_more : (from n : ℕ) → range_with_len from (suc n) ≡ range_with_len from n ++ (from + n) ∷ []
range_more from zero = ap (λ k. k ∷ []) (omega arith)
range_more from (suc n) = ap (λ rest. from ∷ rest) (range_more (from + 1) n
    ∙ ap (λ k. range_with_len (from + 1) n ++ k ∷ []) (omega arith))
