-- Lists in the order of their packets: of one list there is one such order.
use Rattle.std.proofs.Common.{◌≡◌, ◌<◌, ◌≤◌, ℕ, suc, ◌+◌, List, [], ◌∷◌, ◌++◌, cond, inl, inr, refl, sym, ap, ◌∙◌, subst, arith}
use Rattle.std.specs.Prelude.{◌==◌, count_by, IsPermutation}
use Rattle.std.specs.List.Sorted.{IsNonDecreasingBy}
use Rattle.std.proofs.lemmas.Bool.{cases_eq, eq-eqb, ne_eqb}
use Rattle.std.proofs.lemmas.List.Sorted.{IsPermutation-sym, sum_by-IsPermutation}
use Rattle.std.proofs.lemmas.List.Sums.{sum_by-cons}
use Rattle.list_laws.proofs.Lists.{In, in_left, middle_in}
use Rattle.order_laws.proofs.Calls.{at_in}
use Rattle.list_laws.proofs.Places.{in_other_order}

module _ {A : Type 0} (packet : A → ℕ) where
  -- each is of a later packet than those before it
  abbrev pub Rises : List A → Type 0
  Rises [] = Unit {0}
  Rises (x ∷ xs) = ((y : A) → In y xs → packet x < packet y) × Rises xs

  -- or at least of no earlier one
  abbrev pub Climbs : List A → Type 0
  Climbs [] = Unit {0}
  Climbs (x ∷ xs) = ((y : A) → In y xs → packet x ≤ packet y) × Climbs xs

  -- so it is for the first of them
  pub rises-front : (xs ys : List A) → Rises (xs ++ ys) → Rises xs
  rises-front [] ys rises = tt
  rises-front (x ∷ xs) ys rises = ((λ y i. rises.0 y (in_left y xs ys i)), rises-front xs ys rises.1)

  -- and without one
  pub rises-without : (xs ys : List A) (x : A) → Rises (xs ++ x ∷ ys) → Rises (xs ++ ys)
  rises-without [] ys x rises = rises.1
  rises-without (z ∷ xs) ys x rises =
      ((λ y i. rises.0 y (middle_in y x xs ys i)), rises-without xs ys x rises.1)

  -- a sorted list climbs
  pub climbs-sorted : (xs : List A) → IsNonDecreasingBy packet xs → Climbs xs
  climbs-sorted [] sorted = tt
  climbs-sorted (x ∷ xs) sorted = (
    (λ y i. let at = at_in xs y y i in
        subst (λ z. packet x ≤ packet z) (sym at.2) (sorted 0 (suc at.0) y (omega arith) (omega (arith, at.1)))),
    climbs-sorted xs (λ i j d less within. sorted (suc i) (suc j) d (omega (arith, less)) (omega (arith, within))),
  )

  -- how many are of a packet
  abbrev times : ℕ → List A → ℕ
  times p xs = count_by (λ x. packet x == p) xs

  times-cons : (p : ℕ) (x : A) (xs : List A) → times p (x ∷ xs) ≡ cond (packet x == p) 1 0 + times p xs
  times-cons p x xs = sum_by-cons (λ (y : A). cond (packet y == p) 1 0) x xs

  times-same : (p : ℕ) (x : A) (xs : List A) → packet x ≡ p → times p (x ∷ xs) ≡ suc (times p xs)
  times-same p x xs same =
      let one : cond {A = ℕ} (packet x == p) 1 0 ≡ 1 = ap (λ b. cond b 1 0) (eq-eqb (packet x) p same) in
      omega (arith, times-cons p x xs, one)

  times-other : (p : ℕ) (x : A) (xs : List A) → (packet x ≡ p → ⊥) → times p (x ∷ xs) ≡ times p xs
  times-other p x xs apart =
      let none : cond {A = ℕ} (packet x == p) 1 0 ≡ 0 = ap (λ b. cond b 1 0) (ne_eqb (packet x) p apart) in
      omega (arith, times-cons p x xs, none)

  -- none, where all are of later ones
  times-later : (p : ℕ) (xs : List A) → ((y : A) → In y xs → p < packet y) → times p xs ≡ 0
  times-later p [] later = refl
  times-later p (x ∷ xs) later =
      times-other p x xs (λ same. absurd (omega (arith, same, later x (inl refl))))
      ∙ times-later p xs (λ y i. later y (inr i))

  -- one at most, where they rise
  times-risen : (p : ℕ) (xs : List A) → Rises xs → times p xs ≤ 1
  times-risen p [] rises = omega arith
  times-risen p (x ∷ xs) rises = elim (cases_eq (packet x) p) [
    | inl same ↦ omega (
      arith,
      times-same p x xs same,
      times-later p xs (λ y i. omega (arith, same, rises.0 y i)),
    )
    | inr apart ↦ omega (arith, times-other p x xs apart, times-risen p xs rises.1)
  ]

  -- one at least, where there is one
  times-in : (xs : List A) (y : A) → In y xs → 1 ≤ times (packet y) xs
  times-in [] y i = elim i [ ]
  times-in (x ∷ xs) y (inl is) = omega (arith, times-same (packet y) x xs (ap packet (sym is)))
  times-in (x ∷ xs) y (inr i) = elim (cases_eq (packet x) (packet y)) [
    | inl same ↦ omega (arith, times-same (packet y) x xs same)
    | inr apart ↦ omega (arith, times-other (packet y) x xs apart, times-in xs y i)
  ]

  -- the others are no more
  times-rest : (p : ℕ) (x : A) (xs : List A) → times p xs ≤ times p (x ∷ xs)
  times-rest p x xs = elim (cases_eq (packet x) p) [
    | inl same ↦ omega (arith, times-same p x xs same)
    | inr apart ↦ omega (arith, times-other p x xs apart)
  ]

  -- what climbs, and has each packet once, rises
  rises-climbed : (xs : List A) → Climbs xs → ((p : ℕ) → times p xs ≤ 1) → Rises xs
  rises-climbed [] climbs few = tt
  rises-climbed (x ∷ xs) climbs few = (
    (λ y i. elim (cases_eq (packet x) (packet y)) [
      | inl same ↦ absurd (omega (
        arith,
        few (packet y),
        times-same (packet y) x xs same,
        times-in xs y i,
      ))
      | inr apart ↦ omega (arith, climbs.0 y i, apart)
    ]),
    rises-climbed xs climbs.1 (λ p. omega (arith, few p, times-rest p x xs)),
  )

  -- two that rise and have the same members are the same
  same_risen : (xs ys : List A) → Rises xs → Rises ys → ((z : A) → In z xs → In z ys) →
      ((z : A) → In z ys → In z xs) → xs ≡ ys
  same_risen [] [] one other there back = refl
  same_risen [] (y ∷ ys) one other there back = elim (back y (inl refl)) [ ]
  same_risen (x ∷ xs) [] one other there back = elim (there x (inl refl)) [ ]
  same_risen (x ∷ xs) (y ∷ ys) one other there back =
      let first : x ≡ y = elim (there x (inl refl)) [
        | inl is ↦ is
        | inr late ↦ elim (back y (inl refl)) [
          | inl is ↦ sym is
          | inr later ↦ absurd (omega (arith, other.0 x late, one.0 y later))
        ]
      ] in
      let rest : xs ≡ ys = same_risen xs ys one.1 other.1
      (λ z i. elim (there z (inr i)) [
        | inl is ↦ absurd (omega (arith, one.0 z i, ap packet is, ap packet first))
        | inr j ↦ j
      ])
      (λ z i. elim (back z (inr i)) [
        | inl is ↦ absurd (omega (arith, other.0 z i, ap packet is, ap packet first))
        | inr j ↦ j
      ]) in
      λ i. first i ∷ rest i

  -- so a list that rises is the one that climbs, of those in another order
  pub one_order : (xs ys : List A) → IsPermutation xs ys → Rises xs → Climbs ys → ys ≡ xs
  one_order xs ys same rises climbs =
      sym (same_risen xs ys rises
      (rises-climbed ys climbs (λ p. omega (
        arith,
        sum_by-IsPermutation (λ (x : A). cond (packet x == p) 1 0) xs ys same,
        times-risen p xs rises,
      )))
      (λ z i. in_other_order ys xs z (IsPermutation-sym xs ys same) i)
      (λ z i. in_other_order xs ys z same i))
