-- What a search by a number finds.
use Rattle.std.proofs.Common.{◌≡◌, inl, inr, ℕ, ◌<◌, ◌≤◌, List, length, get_or, Result, Ok, Err, sym, ap, ◌∙◌, arith}
use Rattle.std.specs.Prelude.{IsSortedByKey}
use Rattle.std.specs.Result.{result_ok}
use Rattle.std.specs.declared.cmp.Ordering.TheVariants.{Less, Equal, Greater}
use Rattle.std.specs.Ordering.{nat_cmp, ordering_index}
use Rattle.std.specs.List.Sorted.{IsSearchInRange, IsBinarySearchResult, IsNonDecreasingBy}
use Rattle.std.proofs.lemmas.List.Sorted.{IsNonDecreasingBy-from_sort}
use Rattle.std.proofs.lemmas.Bool.{cases_lt}
use Rattle.report_check.specs.Places.{IsPlaceOf}

-- numbers that compare as equal are one
equal_is : (a b : ℕ) → nat_cmp a b ≡ Equal → a ≡ b
equal_is a b is = grind arith

-- a number compares as equal to itself
itself : (a : ℕ) → nat_cmp a a ≡ Equal
itself a = grind arith

-- a greater number compares as no less
index_rises : (a b x : ℕ) → a ≤ b → ordering_index (nat_cmp a x) ≤ ordering_index (nat_cmp b x)
index_rises a b x le = grind arith

-- less is not equal
less_equal : Less ≡ Equal → ⊥
less_equal is = cc

-- greater is not equal
greater_equal : Greater ≡ Equal → ⊥
greater_equal is = cc

-- a search of numbers in order finds the place, or there is none
pub place_is : {A : Type 0} (key : A → ℕ) (xs : List A) (packet : ℕ) (r : Result ℕ ℕ) → IsSearchInRange r (length xs) →
    IsBinarySearchResult (λ y. nat_cmp (key y) packet) xs r → IsSortedByKey key nat_cmp xs →
    IsPlaceOf key xs packet (result_ok r)
place_is {A} key xs packet (Ok i) range found sorted = (range, λ d. equal_is (key (get_or xs i d)) packet (found d))
place_is {A} key xs packet (Err i) range found sorted = none
  where
    rises : IsNonDecreasingBy key xs
    rises = IsNonDecreasingBy-from_sort key xs sorted

    none : (k : ℕ) (d : A) → k < length xs → key (get_or xs k d) ≡ packet → ⊥
    none k d inside is =
        let parts = found (λ a b e before within. index_rises (key (get_or xs a e)) (key (get_or xs b e)) packet
        (rises a b e before within)) in
        let same : nat_cmp (key (get_or xs k d)) packet ≡ Equal =
        ap (λ (n : ℕ). nat_cmp n packet) is ∙ itself packet in
        elim (cases_lt k i) [
          | inr after ↦ greater_equal (sym (parts.1 k d after inside) ∙ same)
          | inl before ↦ less_equal (sym (parts.0 k d (omega arith) before) ∙ same)
        ]
