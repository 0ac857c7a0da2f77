-- One step of the loops that tell calls and place rows.
use Rattle.std.proofs.Common.{◌≡◌, ℕ, ◌+◌, ◌<◌, ◌≤◌, List, [], ◌∷◌, ◌++◌, length, take, get_or, inl, inr, ap, ◌∙◌, subst, arith, append-nil}
use Rattle.std.specs.Prelude.{flat_map, slice_index, slice_set}
use Rattle.std.proofs.lemmas.Bool.{cases_lt}
use Rattle.std.proofs.lemmas.List.{get_or-set_same, get_or-set_other, take_more}
use Rattle.list_laws.proofs.Lists.{flat_map_append}

-- with the number at this place set, the numbers up to it are as they are to be
pub set_done : (wanted : ℕ → ℕ) (count then : List ℕ) (at value : ℕ) → at < length count →
    then ≡ slice_set count at value → value ≡ wanted at →
    ((other : ℕ) → other < at → slice_index count other ≡ wanted other) →
    (other : ℕ) → other < at + 1 → slice_index then other ≡ wanted other
set_done wanted count then at value inside is value_is done other few = elim (cases_lt other at) [
  | inl less ↦ ap (λ xs. slice_index xs other) is
      ∙ get_or-set_other count at other value 0 (λ e. omega (arith, e, less)) ∙ done other less
  | inr past ↦
      let same : at ≡ other = omega (arith, past, few) in
      ap (λ xs. slice_index xs other) is
      ∙ subst (λ n. slice_index (slice_set count at value) n ≡ value) same (get_or-set_same count at value 0 inside)
      ∙ value_is ∙ ap wanted same
]

-- and those behind it stay
pub set_rest : (count then start : List ℕ) (at value : ℕ) → then ≡ slice_set count at value →
    ((other : ℕ) → at ≤ other → slice_index count other ≡ slice_index start other) →
    (other : ℕ) → at + 1 ≤ other → slice_index then other ≡ slice_index start other
set_rest count then start at value is rest other behind =
    ap (λ xs. slice_index xs other) is
    ∙ get_or-set_other count at other value 0 (λ e. omega (arith, e, behind))
    ∙ rest other (omega (arith, behind))

-- what comes of one more member
pub flat_more : {A B : Type 0} → (f : A → List B) (xs : List A) (i : ℕ) (d : A) → i < length xs →
    flat_map f (take (i + 1) xs) ≡ flat_map f (take i xs) ++ f (get_or xs i d)
flat_more f xs i d inside =
    ap (flat_map f) (take_more xs i d inside)
    ∙ flat_map_append f (take i xs) (get_or xs i d ∷ [])
    ∙ ap (λ ys. flat_map f (take i xs) ++ ys) (append-nil (f (get_or xs i d)))
