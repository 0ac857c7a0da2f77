-- Calls of one key: those of joined lists, cuts of them, and lists that agree on each key's.
use Rattle.std.proofs.Common.{◌≡◌, Bool, true, false, cond, List, [], ◌∷◌, ◌++◌, refl, inl, inr, sym, ap, ◌∙◌, subst}
use Rattle.std.specs.Prelude.{filter, IsPermutation}
use Rattle.std.specs.Cmp.{eq_by_cmp_equiv}
use Rattle.std.proofs.lemmas.Bool.{cases_Bool}
use Rattle.std.proofs.lemmas.List.Elements.{filter-append}
use Rattle.std.proofs.lemmas.List.Sorted.{IsPermutation-refl, IsPermutation-cons, IsPermutation-trans, IsPermutation-sym, IsPermutation-middle}
use Rattle.plain_map.specs.declared.keys.Key.{Key}
use Rattle.plain_map.specs.Calls.{key_in, is_update}
use Rattle.plain_map.specs.Keys.{key_cmp}
use Rattle.plain_map.proofs.KeyLemmas.{keys_total, exact_keys, tied}
use Rattle.map_laws.specs.ByKey.{Made, is_about, about, AgreeByKey, updates_in, AgreeingCallsArePermuted}

-- two lists with a first element are one if these are, and the rests
pub cons_same : {A : Type 0} (x y : A) (xs ys : List A) → x ∷ xs ≡ y ∷ ys → (x ≡ y) × (xs ≡ ys)
cons_same x y xs ys is = (cc, cc)

-- an empty list is none with a first element
pub nil_cons : {A : Type 0} (x : A) (xs : List A) → [] ≡ x ∷ xs → ⊥
nil_cons x xs is = cc

module _ {A : Type 0} (f : A → Bool) where
  -- one that passes stands first of those that pass
  pub filter_kept : (x : A) (xs : List A) → f x ≡ true → filter f (x ∷ xs) ≡ x ∷ filter f xs
  filter_kept x xs is = ap (λ b. cond b (x ∷ filter f xs) (filter f xs)) is

  -- one that does not pass is left out
  pub filter_dropped : (x : A) (xs : List A) → f x ≡ false → filter f (x ∷ xs) ≡ filter f xs
  filter_dropped x xs is = ap (λ b. cond b (x ∷ filter f xs) (filter f xs)) is

  -- wherever those that pass are cut, the list can be cut
  pub filter_cut : (xs ys zs : List A) → filter f xs ≡ ys ++ zs →
      (front : List A) × (back : List A) × (xs ≡ front ++ back) × (filter f front ≡ ys) × (filter f back ≡ zs)
  filter_cut xs [] zs is = ([], xs, refl, refl, is)
  filter_cut [] (y ∷ ys) zs is = absurd (nil_cons y (ys ++ zs) is)
  filter_cut (x ∷ xs) (y ∷ ys) zs is = elim (cases_Bool (f x)) [
    | inl passes ↦
        let same = cons_same x y (filter f xs) (ys ++ zs) (sym (filter_kept x xs passes) ∙ is) in
        let rest = filter_cut xs ys zs same.1 in (
          x ∷ rest.0,
          rest.1,
          ap (λ l. x ∷ l) rest.2,
          filter_kept x rest.0 passes ∙ ap (λ l. x ∷ l) rest.3 ∙ ap (λ a. a ∷ ys) same.0,
          rest.4,
        )
    | inr fails ↦ let rest = filter_cut xs (y ∷ ys) zs (sym (filter_dropped x xs fails) ∙ is) in
        (x ∷ rest.0, rest.1, ap (λ l. x ∷ l) rest.2, filter_dropped x rest.0 fails ∙ rest.3, rest.4)
  ]

  -- the list can be cut at the first one that passes
  pub filter_first : (xs ys : List A) (y : A) → filter f xs ≡ y ∷ ys →
      (front : List A) × (back : List A) × (xs ≡ front ++ y ∷ back) × (filter f front ≡ []) × (filter f back ≡ ys)
  filter_first [] ys y is = absurd (nil_cons y ys is)
  filter_first (x ∷ xs) ys y is = elim (cases_Bool (f x)) [
    | inl passes ↦ let same = cons_same x y (filter f xs) ys (sym (filter_kept x xs passes) ∙ is) in
        ([], xs, ap (λ a. a ∷ xs) same.0, refl, same.1)
    | inr fails ↦ let rest = filter_first xs ys y (sym (filter_dropped x xs fails) ∙ is) in
        (x ∷ rest.0, rest.1, ap (λ l. x ∷ l) rest.2, filter_dropped x rest.0 fails ∙ rest.3, rest.4)
  ]

-- two tests leave the same, whichever comes first
pub filter_swap : {A : Type 0} (f g : A → Bool) (xs : List A) → filter f (filter g xs) ≡ filter g (filter f xs)
filter_swap f g [] = refl
filter_swap f g (x ∷ xs) = both (f x) (g x) refl refl (filter_swap f g xs)
  where
    both : (a b : Bool) → f x ≡ a → g x ≡ b → filter f (filter g xs) ≡ filter g (filter f xs) →
        filter f (filter g (x ∷ xs)) ≡ filter g (filter f (x ∷ xs))
    both true true p q same = ap (filter f) (filter_kept g x xs q) ∙ filter_kept f x (filter g xs) p
        ∙ ap (λ l. x ∷ l) same ∙ sym (ap (filter g) (filter_kept f x xs p) ∙ filter_kept g x (filter f xs) q)
    both true false p q same = ap (filter f) (filter_dropped g x xs q) ∙ same
        ∙ sym (ap (filter g) (filter_kept f x xs p) ∙ filter_dropped g x (filter f xs) q)
    both false true p q same = ap (filter f) (filter_kept g x xs q) ∙ filter_dropped f x (filter g xs) p ∙ same
        ∙ sym (ap (filter g) (filter_dropped f x xs p))
    both false false p q same = ap (filter f) (filter_dropped g x xs q) ∙ same
        ∙ sym (ap (filter g) (filter_dropped f x xs p))

-- a call is about its own key
pub about_own : (made : Made) → is_about (key_in made.0) made ≡ true
about_own made = (eq_by_cmp_equiv keys_total).refl (key_in made.0)

-- and about no other
pub about_is : (key : Key) (made : Made) → is_about key made ≡ true → key ≡ key_in made.0
about_is key made is = exact_keys key (key_in made.0) (tied (key_cmp key (key_in made.0)) is)

-- the calls about a key of two lists together
pub about-append : (key : Key) (xs ys : List Made) → about key (xs ++ ys) ≡ about key xs ++ about key ys
about-append key xs ys = filter-append (is_about key) xs ys

-- the updates about a key are the updates among the calls about it
pub about-updates_in : (key : Key) (calls : List Made) → about key (updates_in calls) ≡ updates_in (about key calls)
about-updates_in key calls = filter_swap (is_about key) (λ (made : Made). is_update made.0) calls

-- lists that agree with a first call in one agree without it, if it is taken out where its key's calls begin
agree_without : (made : Made) (later front back : List Made) → AgreeByKey (made ∷ later) (front ++ made ∷ back) →
    about (key_in made.0) front ≡ [] → about (key_in made.0) back ≡ about (key_in made.0) later →
    AgreeByKey later (front ++ back)
agree_without made later front back agree none rest key = elim (cases_Bool (is_about key made)) [
  | inl passes ↦
      let is = about_is key made passes in
      let own : about (key_in made.0) later ≡ about (key_in made.0) (front ++ back) =
      sym (about-append (key_in made.0) front back ∙ ap (λ l. l ++ about (key_in made.0) back) none ∙ rest) in
      subst (λ k. about k later ≡ about k (front ++ back)) (sym is) own
  | inr fails ↦ sym (filter_dropped (is_about key) made later fails) ∙ agree key ∙ about-append key front (made ∷ back)
      ∙ ap (λ l. about key front ++ l) (filter_dropped (is_about key) made back fails)
      ∙ sym (about-append key front back)
]

-- lists that agree key by key are one another in another order
pub agreeing_permuted : AgreeingCallsArePermuted
agreeing_permuted [] [] agree = IsPermutation-refl []
agreeing_permuted [] (y ∷ ys) agree =
    let key = key_in y.0 in
    absurd (nil_cons y (about key ys) (agree key ∙ filter_kept (is_about key) y ys (about_own y)))
agreeing_permuted (x ∷ xs) ys agree =
    let key = key_in x.0 in
    let cut = filter_first (is_about key) ys (about key xs) x
    (sym (agree key) ∙ filter_kept (is_about key) x xs (about_own x)) in
    let front = cut.0 in
    let back = cut.1 in
    let rest = agreeing_permuted xs (front ++ back)
    (agree_without x xs front back (λ k. agree k ∙ ap (about k) cut.2) cut.3 cut.4) in
    subst (IsPermutation (x ∷ xs)) (sym cut.2)
    (IsPermutation-trans (x ∷ xs) (x ∷ (front ++ back)) (front ++ x ∷ back)
    (IsPermutation-cons x xs (front ++ back) rest)
    (IsPermutation-sym (front ++ x ∷ back) (x ∷ (front ++ back)) (IsPermutation-middle front x back)))
