-- Marks of numbers, and a list taken number by number with them.
use Rattle.std.proofs.Common.{◌≡◌, ℕ, ◌+◌, ◌<◌, Bool, true, false, cond, List, [], ◌∷◌, ◌++◌, length, take, get_or, reverse, refl, inl, inr, sym, ap, ◌∙◌, subst, eqb-true, eq-eqb}
use Rattle.std.specs.Prelude.{◌==◌, ◌||◌, slice_index_or}
use Rattle.std.proofs.lemmas.List.{reverse-append, take_more}
use Rattle.std.proofs.lemmas.List.Folds.{list_any-append}
use Rattle.std.proofs.lemmas.Bool.{cases_Bool, cases_eq, ne_eqb}
use Rattle.table_model.specs.Reading.{each_once, is_among}
use Rattle.closed_words.specs.Marks.{AreMet}

module _ (known : List ℕ) where
  -- a number among both is among one
  pub among_both_lists : (xs : List ℕ) (x : ℕ) → is_among (known ++ xs) x ≡ (is_among known x || is_among xs x)
  among_both_lists xs x = list_any-append (λ other. other == x) known xs

  -- with one more marked
  pub met_more : (marks marks_then : List Bool) (x : ℕ) (xs : List ℕ) → AreMet marks (known ++ xs) →
      ((n : ℕ) → slice_index_or marks_then n false ≡ ((n == x) || slice_index_or marks n false)) →
      AreMet marks_then (known ++ x ∷ xs)
  met_more marks marks_then x xs m then_is n = elim (cases_eq n x) [
    | inl e ↦
        then_is n ∙ ap (λ b. b || slice_index_or marks n false) (eq-eqb n x e)
        ∙ sym (among_both_lists (x ∷ xs) n
        ∙ ap (λ b. is_among known n || (b || is_among xs n)) (eq-eqb x n (sym e)) ∙ last (is_among known n))
    | inr apart ↦
        then_is n ∙ ap (λ b. b || slice_index_or marks n false) (ne_eqb n x apart)
        ∙ m n ∙ among_both_lists xs n
        ∙ sym (among_both_lists (x ∷ xs) n
        ∙ ap (λ b. is_among known n || (b || is_among xs n)) (ne_eqb x n (λ e. apart (sym e))))
  ]
    where
      last : (a : Bool) → a || true ≡ true
      last true = refl
      last false = refl

  -- and with one that was marked
  pub met_still : (marks : List Bool) (x : ℕ) (xs : List ℕ) → AreMet marks (known ++ xs) →
      slice_index_or marks x false ≡ true → AreMet marks (known ++ x ∷ xs)
  met_still marks x xs m was = met_more marks marks x xs m (λ n. elim (cases_Bool (n == x)) [
    | inl e ↦ ap (λ z. slice_index_or marks z false) (eqb-true n x e) ∙ was
        ∙ sym (ap (λ b. b || slice_index_or marks n false) e)
    | inr f ↦ sym (ap (λ b. b || slice_index_or marks n false) f)
  ])

-- no number is met at first
pub none_met : AreMet [] []
none_met number = refl

module _ (xs : List ℕ) where
  -- the numbers so far, the latest first
  abbrev pub so_far : ℕ → List ℕ
  so_far i = reverse (take i xs)

  -- what holds of the numbers that were kept and of the marks
  abbrev pub Kept : (once : List ℕ) (marks : List Bool) (i : ℕ) → Type 0
  Kept once marks i = (reverse once ≡ each_once (so_far i)) × AreMet marks (so_far i)

  -- the next one stands before those so far
  one_more : (i : ℕ) → i < length xs → so_far (i + 1) ≡ get_or xs i 0 ∷ so_far i
  one_more i inside = ap reverse (take_more xs i 0 inside) ∙ reverse-append (take i xs) (get_or xs i 0 ∷ [])

  -- a number that was not met is kept and marked
  pub kept_new : (i x : ℕ) → x ≡ get_or xs i 0 → i < length xs → (once once_then : List ℕ)
      (marks marks_then : List Bool) → slice_index_or marks x false ≡ false → once_then ≡ once ++ x ∷ [] →
      ((n : ℕ) → slice_index_or marks_then n false ≡ ((n == x) || slice_index_or marks n false)) →
      Kept once marks i → Kept once_then marks_then (i + 1)
  kept_new i x is inside once once_then marks marks_then fresh more set h =
      let next : so_far (i + 1) ≡ x ∷ so_far i = one_more i inside ∙ ap (λ n. n ∷ so_far i) (sym is) in
      let kept : each_once (x ∷ so_far i) ≡ x ∷ each_once (so_far i) =
      ap (λ b. cond b (each_once (so_far i)) (x ∷ each_once (so_far i))) (sym (h.1 x) ∙ fresh) in (
        ap reverse more ∙ reverse-append once (x ∷ []) ∙ ap (λ ys. x ∷ ys) h.0 ∙ sym (ap each_once next ∙ kept),
        subst (AreMet marks_then) (sym next) (met_more [] marks marks_then x (so_far i) h.1 set),
      )

  -- one that was met is passed over
  pub kept_old : (i x : ℕ) → x ≡ get_or xs i 0 → i < length xs → (once once_then : List ℕ)
      (marks marks_then : List Bool) → slice_index_or marks x false ≡ true → once_then ≡ once → marks_then ≡ marks →
      Kept once marks i → Kept once_then marks_then (i + 1)
  kept_old i x is inside once once_then marks marks_then was same marked h =
      let next : so_far (i + 1) ≡ x ∷ so_far i = one_more i inside ∙ ap (λ n. n ∷ so_far i) (sym is) in
      let left : each_once (x ∷ so_far i) ≡ each_once (so_far i) =
      ap (λ b. cond b (each_once (so_far i)) (x ∷ each_once (so_far i))) (sym (h.1 x) ∙ was) in (
        ap reverse same ∙ h.0 ∙ sym (ap each_once next ∙ left),
        subst (λ ms. AreMet ms (so_far (i + 1))) (sym marked)
            (subst (AreMet marks) (sym next) (met_still [] marks x (so_far i) h.1 was)),
      )
