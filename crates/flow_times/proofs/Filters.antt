-- Lists of what passes a test.
use Rattle.std.proofs.Common.{◌≡◌, ◌≤◌, ◌<◌, Bool, true, false, List, [], ◌∷◌, length, filter, inl, inr, refl, sym, ap, ◌∙◌, subst, arith}
use Rattle.std.proofs.lemmas.Bool.{cases_Bool}
use Rattle.list_laws.proofs.Lists.{In, filter_in}
use Rattle.list_laws.proofs.Truths.{not_both}
use Rattle.map_laws.proofs.ByKeyLists.{filter_dropped, filter_kept, filter_swap}

module _ {A : Type 0} where
  -- all pass
  pub filter_all : (f : A → Bool) (xs : List A) → ((x : A) → In x xs → f x ≡ true) → filter f xs ≡ xs
  filter_all f [] all = refl
  filter_all f (x ∷ xs) all =
      filter_kept f x xs (all x (inl refl))
      ∙ ap (λ (l : List A). x ∷ l) (filter_all f xs (λ y i. all y (inr i)))

  -- none passes
  pub filter_none : (f : A → Bool) (xs : List A) → ((x : A) → In x xs → f x ≡ false) → filter f xs ≡ []
  filter_none f [] none = refl
  filter_none f (x ∷ xs) none =
      filter_dropped f x xs (none x (inl refl)) ∙ filter_none f xs (λ y i. none y (inr i))

  -- where nothing is left, none passes
  pub none_in : (f : A → Bool) (xs : List A) (x : A) → filter f xs ≡ [] → In x xs → f x ≡ false
  none_in f xs x none within = elim (cases_Bool (f x)) [
    | inl passes ↦ absurd (subst (λ (l : List A). In x l) none (filter_in f xs x within passes))
    | inr fails ↦ fails
  ]

  -- no more are left
  pub filter_few : (f : A → Bool) (xs : List A) → length (filter f xs) ≤ length xs
  filter_few f [] = omega arith
  filter_few f (x ∷ xs) = elim (cases_Bool (f x)) [
    | inl passes ↦ omega (arith, ap length (filter_kept f x xs passes), filter_few f xs)
    | inr fails ↦ omega (arith, ap length (filter_dropped f x xs fails), filter_few f xs)
  ]

  -- and fewer, where one does not pass
  pub filter_fewer : (f : A → Bool) (xs : List A) (x : A) → In x xs → f x ≡ false → length (filter f xs) < length xs
  filter_fewer f [] x within fails = elim within [ ]
  filter_fewer f (y ∷ xs) x (inl same) fails =
      omega (arith, ap length (filter_dropped f y xs (ap f (sym same) ∙ fails)), filter_few f xs)
  filter_fewer f (y ∷ xs) x (inr within) fails = elim (cases_Bool (f y)) [
    | inl passes ↦ omega (arith, ap length (filter_kept f y xs passes), filter_fewer f xs x within fails)
    | inr drops ↦ omega (arith, ap length (filter_dropped f y xs drops), filter_fewer f xs x within fails)
  ]

  -- what passes the one passes the other: both tests leave what the one does
  pub filter_both : (f g : A → Bool) (xs : List A) → ((x : A) → f x ≡ true → g x ≡ true) →
      filter f (filter g xs) ≡ filter f xs
  filter_both f g [] goes = refl
  filter_both f g (x ∷ xs) goes = elim (cases_Bool (g x)) [
    | inl passes ↦
        ap (filter f) (filter_kept g x xs passes) ∙ elim (cases_Bool (f x)) [
          | inl both ↦ filter_kept f x (filter g xs) both
              ∙ ap (λ (l : List A). x ∷ l) (filter_both f g xs goes) ∙ sym (filter_kept f x xs both)
          | inr fails ↦ filter_dropped f x (filter g xs) fails ∙ filter_both f g xs goes
              ∙ sym (filter_dropped f x xs fails)
        ]
    | inr drops ↦
        ap (filter f) (filter_dropped g x xs drops) ∙ filter_both f g xs goes ∙ elim (cases_Bool (f x)) [
          | inl both ↦ absurd (not_both (g x) (goes x both) drops)
          | inr fails ↦ sym (filter_dropped f x xs fails)
        ]
  ]

  -- the one test leaves what both do
  pub filter_under : (f g : A → Bool) (xs : List A) → ((x : A) → f x ≡ true → g x ≡ true) →
      filter g (filter f xs) ≡ filter f xs
  filter_under f g xs goes = filter_swap g f xs ∙ filter_both f g xs goes
