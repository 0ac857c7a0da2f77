-- Statements that hold or do not.
use Rattle.std.proofs.Common.{inl, inr, ◌⊎◌, ◌≡◌, ℕ, List, [], ◌∷◌, refl}
use Rattle.std.proofs.lemmas.Bool.{cases_eq}

-- a statement holds or does not
abbrev pub Decided : Type 0 → Type 0
Decided P = P ⊎ (P → ⊥)

-- two that are decided are decided together
pub both : {P Q : Type 0} → Decided P → Decided Q → Decided (P × Q)
both (inl p) (inl q) = inl (p, q)
both (inl p) (inr q) = inr (λ h. q h.1)
both (inr p) q = inr (λ h. p h.0)

-- and so is the choice of them
pub either : {P Q : Type 0} → Decided P → Decided Q → Decided (P ⊎ Q)
either (inl p) q = inl (inl p)
either (inr p) (inl q) = inl (inr q)
either (inr p) (inr q) = inr (λ h. elim h [ inl a ↦ p a | inr b ↦ q b ])

-- whether two lists are one
pub same_list : (xs ys : List ℕ) → Decided (xs ≡ ys)
same_list [] [] = inl refl
same_list [] (y ∷ ys) = inr (λ e. cc)
same_list (x ∷ xs) [] = inr (λ e. cc)
same_list (x ∷ xs) (y ∷ ys) = elim (cases_eq x y) [
  | inl first ↦ elim (same_list xs ys) [
    | inl rest ↦ inl (cc)
    | inr rest ↦ inr (λ e. rest (cc))
  ]
  | inr first ↦ inr (λ e. first (cc))
]
