-- Eight counts of none.
use Rattle.std.proofs.Common.{◌≡◌, ℕ, zero, suc, List, [], ◌∷◌, length, refl, arith}
use Rattle.std.specs.Prelude.{slice_index}

-- past the end there is none either
no_count : (n : ℕ) → slice_index [] n ≡ 0
no_count n = refl

-- whatever the seat
pub eight_zeros : (seat : ℕ) → slice_index (0 ∷ 0 ∷ 0 ∷ 0 ∷ 0 ∷ 0 ∷ 0 ∷ 0 ∷ []) seat ≡ 0
eight_zeros zero = refl
eight_zeros (suc zero) = refl
eight_zeros (suc (suc zero)) = refl
eight_zeros (suc (suc (suc zero))) = refl
eight_zeros (suc (suc (suc (suc zero)))) = refl
eight_zeros (suc (suc (suc (suc (suc zero))))) = refl
eight_zeros (suc (suc (suc (suc (suc (suc zero)))))) = refl
eight_zeros (suc (suc (suc (suc (suc (suc (suc zero))))))) = refl
eight_zeros (suc (suc (suc (suc (suc (suc (suc (suc seat)))))))) = refl

-- a list of none is empty
pub empty_of : (xs : List ℕ) → length xs ≡ 0 → xs ≡ []
empty_of [] e = refl
empty_of (x ∷ xs) e = absurd (omega (arith, e))
