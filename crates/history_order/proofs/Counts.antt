-- Counting the members that pass a test.
use Rattle.std.proofs.Common.{◌≡◌, ◌≢◌, suc, ◌+◌, Bool, true, false, cond, List, [], ◌∷◌, refl, inl, inr, sym, ap, ◌∙◌, subst, arith}
use Rattle.std.specs.List.{count_by}
use Rattle.std.proofs.lemmas.List.Sums.{sum_by-cons}
use Rattle.std.proofs.lemmas.Bool.{cases_Bool}
use Rattle.list_laws.proofs.Lists.{In, Once}

module _ {A : Type 0} where
  -- one that passes is counted
  passes : (f : A → Bool) (x : A) (xs : List A) → f x ≡ true → count_by f (x ∷ xs) ≡ suc (count_by f xs)
  passes f x xs e = let is : count_by f (x ∷ xs) ≡ 1 + count_by f xs =
      sum_by-cons (λ y. cond (f y) 1 0) x xs ∙ ap (λ b. cond b 1 0 + count_by f xs) e in omega (arith, is)

  -- and one that fails is not
  fails : (f : A → Bool) (x : A) (xs : List A) → f x ≡ false → count_by f (x ∷ xs) ≡ count_by f xs
  fails f x xs e = let is : count_by f (x ∷ xs) ≡ 0 + count_by f xs =
      sum_by-cons (λ y. cond (f y) 1 0) x xs ∙ ap (λ b. cond b 1 0 + count_by f xs) e in omega (arith, is)

  -- where none passes there are none
  pub count_none : (f : A → Bool) (xs : List A) → ((x : A) → In x xs → f x ≡ false) → count_by f xs ≡ 0
  count_none f [] h = refl
  count_none f (x ∷ xs) h = fails f x xs (h x (inl refl)) ∙ count_none f xs (λ y i. h y (inr i))

  -- a longer list counts no fewer
  count_least : (f : A → Bool) (x : A) (xs : List A) → count_by f (x ∷ xs) ≡ 0 → (f x ≡ false) × (count_by f xs ≡ 0)
  count_least f x xs h = elim (cases_Bool (f x)) [
    | inr e ↦ (e, sym (fails f x xs e) ∙ h)
    | inl e ↦ absurd (omega (arith, sym (passes f x xs e) ∙ h))
  ]

  -- and where there are none, none passes
  pub none_at : (f : A → Bool) (xs : List A) (x : A) → count_by f xs ≡ 0 → In x xs → f x ≡ false
  none_at f [] x h i = elim i [ ]
  none_at f (y ∷ xs) x h (inl e) = ap f e ∙ (count_least f y xs h).0
  none_at f (y ∷ xs) x h (inr i) = none_at f xs x (count_least f y xs h).1 i

  -- tests that agree on the members count the same
  pub count_same : (f g : A → Bool) (xs : List A) → ((x : A) → In x xs → f x ≡ g x) → count_by f xs ≡ count_by g xs
  count_same f g [] h = refl
  count_same f g (x ∷ xs) h =
      let rest = count_same f g xs (λ y i. h y (inr i)) in
      elim (cases_Bool (g x)) [
        | inl e ↦ passes f x xs (h x (inl refl) ∙ e) ∙ ap suc rest ∙ sym (passes g x xs e)
        | inr e ↦ fails f x xs (h x (inl refl) ∙ e) ∙ rest ∙ sym (fails g x xs e)
      ]

  -- and one more is counted where they differ at one member that stands once
  pub count_more : (f g : A → Bool) (xs : List A) (x : A) → Once xs → In x xs → f x ≡ true → g x ≡ false →
      ((y : A) → In y xs → y ≢ x → f y ≡ g y) → count_by f xs ≡ suc (count_by g xs)
  count_more f g [] x o i here there h = elim i [ ]
  count_more f g (z ∷ xs) x o (inl e) here there h =
      passes f z xs (ap f (sym e) ∙ here)
      ∙ ap suc (count_same f g xs (λ y i. h y (inr i) (λ s. o.0 (subst (λ w. In w xs) (s ∙ e) i))))
      ∙ ap suc (sym (fails g z xs (ap g (sym e) ∙ there)))
  count_more f g (z ∷ xs) x o (inr i) here there h =
      let rest = count_more f g xs x o.1 i here there (λ y j. h y (inr j)) in
      let same = h z (inl refl) (λ s. o.0 (subst (λ w. In w xs) (sym s) i)) in
      elim (cases_Bool (g z)) [
        | inl e ↦ passes f z xs (same ∙ e) ∙ ap suc rest ∙ ap suc (sym (passes g z xs e))
        | inr e ↦ fails f z xs (same ∙ e) ∙ rest ∙ ap suc (sym (fails g z xs e))
      ]
