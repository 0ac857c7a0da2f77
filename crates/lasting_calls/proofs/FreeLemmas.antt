-- A seat has no more free rows than rows.
use Rattle.std.proofs.Common.{◌≡◌, ℕ, zero, suc, ◌+◌, ◌<◌, ◌≤◌, cond, List, [], ◌∷◌, length, refl, inl, inr, arith}
use Rattle.std.specs.Prelude.{◌==◌}
use Rattle.std.proofs.lemmas.Bool.{cases_eq}
use Rattle.std.proofs.lemmas.Bool.Decides.{nat_tests}
use Rattle.own_rows.specs.declared.rows.OwnRows.{OwnRows}
use Rattle.own_rows.specs.Rings.{count}
use Rattle.own_rows.specs.Rows.{HasRows, Rows}

-- how often the numbers of a range stand in a list
abbrev tally : List ℕ → (first : ℕ) → (n : ℕ) → ℕ
tally xs first zero = 0
tally xs first (suc n) = count xs (first + n) + tally xs first n

-- a number is its own
pub counted : (x k : ℕ) → x ≡ k → ◌≡◌ {A = ℕ} (cond (x == k) 1 0) 1
counted x k is = grind (arith, nat_tests)

-- one number more
tally_cons : (x : ℕ) (xs : List ℕ) (first n : ℕ) → tally (x ∷ xs) first n ≡ tally (x ∷ []) first n + tally xs first n
tally_cons x xs first zero = refl
tally_cons x xs first (suc n) = omega (arith, tally_cons x xs first n)

-- a number of the range is counted
tally_one : (x first n : ℕ) → first ≤ x → x < first + n → 1 ≤ tally (x ∷ []) first n
tally_one x first zero low high = absurd (omega (arith, low, high))
tally_one x first (suc n) low high = elim (cases_eq x (first + n)) [
  | inl is ↦ omega (arith, counted x (first + n) is)
  | inr other ↦ omega (arith, tally_one x first n low (omega (arith, high, other)))
]

-- so a list of them is as long as their tally
tally_all : (xs : List ℕ) (first n : ℕ) → ((k : ℕ) → 1 ≤ count xs k → (first ≤ k) × (k < first + n)) →
    length xs ≤ tally xs first n
tally_all [] first n inside = omega arith
tally_all (x ∷ xs) first n inside =
    let here = inside x (omega (arith, counted x x refl)) in
    omega (
      arith,
      tally_cons x xs first n,
      tally_one x first n here.0 here.1,
      tally_all xs first n (λ k h. inside k (omega (arith, h))),
    )

-- which is no more than there are, where each is there once
tally_most : (xs : List ℕ) (first n : ℕ) → ((k : ℕ) → count xs k ≤ 1) → tally xs first n ≤ n
tally_most xs first zero once = omega arith
tally_most xs first (suc n) once = omega (arith, once (first + n), tally_most xs first n once)

-- each free row is one of the seat's, and there once
pub few_free : (o : OwnRows) (r : Rows) → HasRows o r → length r.free ≤ o.rows
few_free o r has =
    omega (
      arith,
      tally_all r.free o.first o.rows (λ k h. has.mine k (omega (arith, h))),
      tally_most r.free o.first o.rows (λ k. omega (arith, has.once k)),
    )
