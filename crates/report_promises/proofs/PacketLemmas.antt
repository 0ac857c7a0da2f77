-- Packets that rise, and how often one stands among those that pass a test.
use Rattle.std.proofs.Common.{◌≡◌, ◌⊎◌, inl, inr, ℕ, suc, ◌<◌, ◌≤◌, Bool, true, false, cond, List, [], ◌∷◌, refl, ◌∙◌, arith}
use Rattle.std.specs.Prelude.{map, filter}
use Rattle.std.specs.List.Sorted.{IsNonDecreasing}
use Rattle.std.proofs.lemmas.Bool.{cases_eq}
use Rattle.report_told.specs.Rules.{Rise, times}
use Rattle.report_told.proofs.TimesLemmas.{times-other, times-same, times-cons}

-- Packets that rise.

-- what stands behind the first rises too
rise_tail : (x : ℕ) (xs : List ℕ) → Rise (x ∷ xs) → Rise xs
rise_tail x [] rise = tt
rise_tail x (y ∷ xs) rise = rise.1

-- one that is not above the first stands nowhere behind it
rise_never : (x : ℕ) (xs : List ℕ) (packet : ℕ) → Rise (x ∷ xs) → packet ≤ x → times packet xs ≡ 0
rise_never x [] packet rise below = refl
rise_never x (y ∷ xs) packet rise below =
    times-other packet y xs (λ same. absurd (omega (arith, same, rise.0, below)))
    ∙ rise_never y xs packet rise.1 (omega (arith, rise.0, below))

-- packets that rise stand once each
pub rise_once : (xs : List ℕ) (packet : ℕ) → Rise xs → times packet xs ≤ 1
rise_once [] packet rise = omega arith
rise_once (x ∷ xs) packet rise = elim (cases_eq x packet) [
  | inl same ↦ omega (arith, times-same packet x xs same, rise_never x xs packet rise (omega (arith, same)))
  | inr other ↦ omega (arith, times-other packet x xs other, rise_once xs packet (rise_tail x xs rise))
]

-- packets that do not fall rise, where each stands once at most
pub rises : (xs : List ℕ) → IsNonDecreasing xs → ((packet : ℕ) → times packet xs ≤ 1) → Rise xs
rises [] sorted once = tt
rises (x ∷ []) sorted once = tt
rises (x ∷ y ∷ xs) sorted once =
    (first (cases_eq x y), rises (y ∷ xs) later (λ packet. omega (arith, once packet, times-cons packet x (y ∷ xs))))
  where
    first : (x ≡ y) ⊎ (x ≡ y → ⊥) → x < y
    first (inl same) = absurd (omega (
      arith,
      once y,
      times-same y x (y ∷ xs) same,
      times-same y y xs refl,
    ))
    first (inr other) = grind (arith, sorted 0 1 0 (omega arith) (omega arith))

    later : IsNonDecreasing (y ∷ xs)
    later i j d before inside = sorted (suc i) (suc j) d (omega arith) (omega arith)

-- where one test implies another, no more packets pass it
pub filter_fewer : {A : Type 0} (key : A → ℕ) (packet : ℕ) (few many : A → Bool) →
    ((x : A) → few x ≡ true → many x ≡ true) → (xs : List A) →
    times packet (map key (filter few xs)) ≤ times packet (map key (filter many xs))
filter_fewer key packet few many implies [] = omega arith
filter_fewer key packet few many implies (x ∷ xs) =
    go (few x) (many x) (implies x) (filter_fewer key packet few many implies xs)
  where
    go : (a b : Bool) → (a ≡ true → b ≡ true) →
        times packet (map key (filter few xs)) ≤ times packet (map key (filter many xs)) →
        times packet (map key (cond a (x ∷ filter few xs) (filter few xs)))
        ≤ times packet (map key (cond b (x ∷ filter many xs) (filter many xs)))
    go true true both later =
        omega (
          arith,
          later,
          times-cons packet (key x) (map key (filter few xs)),
          times-cons packet (key x) (map key (filter many xs)),
        )
    go true false both later = let no : false ≡ true = both refl in cc
    go false true both later = omega (arith, later, times-cons packet (key x) (map key (filter many xs)))
    go false false both later = later
