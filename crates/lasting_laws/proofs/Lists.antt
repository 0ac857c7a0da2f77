-- The first elements of a list, one by one, and a function with another value at one place.
use Rattle.std.proofs.Common.{◌≡◌, ◌≢◌, ℕ, zero, suc, ◌<◌, ◌⊎◌, inl, inr, List, [], ◌∷◌, ◌++◌, length, get_or, take, refl, sym, ap, ◌∙◌, arith}
use Rattle.std.proofs.lemmas.Bool.{cases_eq}
use Rattle.word_rows.specs.Memory.{put}
use Rattle.word_rows.proofs.MemoryLemmas.{put_same, put_other}

-- the first elements, with one more
pub take_one : {A : Type 0} → (xs : List A) (i j : ℕ) (d : A) → j ≡ suc i → i < length xs →
    take j xs ≡ take i xs ++ get_or xs i d ∷ []
take_one [] i j d e h = absurd (omega arith)
take_one {A} (y ∷ ys) zero j d e h = ap (λ (k : ℕ). take k (y ∷ ys)) e
take_one {A} (y ∷ ys) (suc i) j d e h = ap (λ (k : ℕ). take k (y ∷ ys)) e
    ∙ ap (λ (zs : List A). y ∷ zs) (take_one ys i (suc i) d refl (omega arith))

-- all of a list is taken
pub take_all : {A : Type 0} → (xs : List A) (n : ℕ) → length xs ≡ n → take n xs ≡ xs
take_all [] n e = ap (λ (k : ℕ). take k []) (sym e)
take_all {A} (x ∷ xs) n e = ap (λ (k : ℕ). take k (x ∷ xs)) (sym e)
    ∙ ap (λ (ys : List A). x ∷ ys) (take_all xs (length xs) refl)

-- at that place it is the new value, and elsewhere the old one
pub either_put : {A : Type 0} (f : ℕ → A) (k : ℕ) (v : A) (j : ℕ) →
    ((j ≡ k) × (put f k v j ≡ v)) ⊎ ((j ≢ k) × (put f k v j ≡ f j))
either_put f k v j = elim (cases_eq j k) [
  | inl e ↦ inl (e, ap (put f k v) e ∙ put_same f k v)
  | inr n ↦ inr (n, put_other f k v j n)
]
