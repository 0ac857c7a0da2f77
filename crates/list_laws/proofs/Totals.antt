-- Sums over a list, facts of each of a list, and how many of a list pass a test.
use Rattle.std.proofs.Common.{◌≡◌, ℕ, ◌+◌, ◌≤◌, Bool, true, false, cond, ◌||◌, List, [], ◌∷◌, ◌++◌, length, Some, refl, sym, ap, ◌∙◌, subst, arith}
use Rattle.std.specs.Prelude.{find, count_by}
use Rattle.std.specs.List.{list_any, AllByRecursion as Each}
use Rattle.std.proofs.lemmas.List.Sums.{sum_by-cons}

-- the sum over a list, by cases on the list
abbrev pub total : {A : Type 0} → (A → ℕ) → List A → ℕ
total f [] = 0
total f (x ∷ xs) = f x + total f xs

-- one for what passes
abbrev pub one_if : {A : Type 0} → (A → Bool) → A → ℕ
one_if test x = cond (test x) 1 0

-- how many pass
abbrev pub many : {A : Type 0} → (A → Bool) → List A → ℕ
many test xs = total (one_if test) xs

module _ {A : Type 0} where
  -- the sum over two lists
  pub total-append : (f : A → ℕ) (xs ys : List A) → total f (xs ++ ys) ≡ total f xs + total f ys
  total-append f [] ys = omega arith
  total-append f (x ∷ xs) ys = omega (arith, total-append f xs ys)

  -- equal numbers have equal sums
  pub total-alike : (f g : A → ℕ) (xs : List A) → ((x : A) → f x ≡ g x) → total f xs ≡ total g xs
  total-alike f g [] same = refl
  total-alike f g (x ∷ xs) same = omega (arith, same x, total-alike f g xs same)

  -- as many pass as the count says
  pub many-count : (test : A → Bool) (xs : List A) → many test xs ≡ count_by test xs
  many-count test [] = refl
  many-count test (x ∷ xs) =
      ap (λ n. cond (test x) 1 0 + n) (many-count test xs) ∙ sym (sum_by-cons (λ y. cond (test y) 1 0) x xs)

  -- as many ones as there are elements
  pub total-ones : (xs : List A) → total (λ _. 1) xs ≡ length xs
  total-ones [] = refl
  total-ones (x ∷ xs) = omega (arith, total-ones xs)

  -- where none passes, none is counted
  pub any_none : (test : A → Bool) (xs : List A) → list_any test xs ≡ false → many test xs ≡ 0
  any_none test [] e = refl
  any_none test (x ∷ xs) e = go (test x) e (any_none test xs)
    where
      go : (b : Bool) → (b || list_any test xs) ≡ false → (list_any test xs ≡ false → many test xs ≡ 0) →
          cond b 1 0 + many test xs ≡ 0
      go true e rest = cc
      go false e rest = omega (arith, rest e)

  -- where one passes, one is counted
  pub any_some : (test : A → Bool) (xs : List A) → list_any test xs ≡ true → 1 ≤ many test xs
  any_some test [] e = cc
  any_some test (x ∷ xs) e = go (test x) e (any_some test xs)
    where
      go : (b : Bool) → (b || list_any test xs) ≡ true → (list_any test xs ≡ true → 1 ≤ many test xs) →
          1 ≤ cond b 1 0 + many test xs
      go true e rest = omega arith
      go false e rest = omega (arith, rest e)

  -- where one is counted, one passes
  pub some_any : (test : A → Bool) (xs : List A) → 1 ≤ many test xs → list_any test xs ≡ true
  some_any test xs h = go (list_any test xs) refl
    where
      go : (b : Bool) → list_any test xs ≡ b → b ≡ true
      go true e = refl
      go false e = absurd (omega (arith, h, any_none test xs e))

  -- ---- each of a list

  pub each-append : (P : A → Type 0) (xs ys : List A) → Each P xs → Each P ys → Each P (xs ++ ys)
  each-append P [] ys p q = q
  each-append P (x ∷ xs) ys p q = (p.0, each-append P xs ys p.1 q)

  -- what follows of each
  pub each-alike : (P Q : A → Type 0) → ((x : A) → P x → Q x) → (xs : List A) → Each P xs → Each Q xs
  each-alike P Q h [] p = tt
  each-alike P Q h (x ∷ xs) p = (h x p.0, each-alike P Q h xs p.1)

  -- two facts of each
  pub each-both : (P Q : A → Type 0) (xs : List A) → Each P xs → Each Q xs → Each (λ x. P x × Q x) xs
  each-both P Q [] p q = tt
  each-both P Q (x ∷ xs) p q = ((p.0, q.0), each-both P Q xs p.1 q.1)

  -- what is found passes, and has what each has
  pub found-each : (P : A → Type 0) (test : A → Bool) (xs : List A) (x : A) → Each P xs → find test xs ≡ Some x → P x
      × (test x ≡ true)
  found-each P test [] x each e = cc
  found-each P test (y ∷ xs) x each e = go (test y) refl e (found-each P test xs x each.1)
    where
      go : (b : Bool) → test y ≡ b → cond b (Some y) (find test xs) ≡ Some x →
          (find test xs ≡ Some x → P x × (test x ≡ true)) → P x × (test x ≡ true)
      go true t e rest = (let same : y ≡ x = some e in (subst P same each.0, ap test (sym same) ∙ t))
        where
          some : Some y ≡ Some x → y ≡ x
          some e = cc
      go false t e rest = rest e

  -- where some pass one is found
  pub found-some : (test : A → Bool) (xs : List A) → 1 ≤ many test xs → (x : A) × (find test xs ≡ Some x)
  found-some test [] h = absurd (omega (arith, h))
  found-some test (y ∷ xs) h = go (test y) h (found-some test xs)
    where
      go : (b : Bool) → 1 ≤ cond b 1 0 + many test xs → (1 ≤ many test xs → (x : A) × (find test xs ≡ Some x)) →
          (x : A) × (cond b (Some y) (find test xs) ≡ Some x)
      go true h rest = (y, refl)
      go false h rest = rest (omega (arith, h))
