-- Members of lists, a member taken out, and lists that are one another in another order.
use Rattle.std.proofs.Common.{◌≡◌, ℕ, zero, suc, ◌+◌, ◌<◌, ◌≤◌, ◌⊎◌, Bool, true, false, cond, not, List, [], ◌∷◌, ◌++◌, map, length, get_or, take, drop, Option, Some, None, true≢false, add-one, refl, inl, inr, sym, ap, ◌∙◌, subst, arith, append_assoc}
use Rattle.std.specs.Prelude.{slice_get, filter, flat_map, filter_map, position, find, IsPermutation}
use Rattle.std.proofs.lemmas.List.Quantifiers.{position-Some}
use Rattle.std.specs.List.{cons_option, list_any, list_all, range_with_len, position_or_len}
use Rattle.std.proofs.lemmas.Bool.{lt-ltb, and_parts, and_from, or_cases, or_left, or_right, cases_Bool, cond_both, cases_lt}
use Rattle.std.proofs.lemmas.List.Sorted.{IsPermutation-refl, IsPermutation-cons, IsPermutation-trans, IsPermutation-sym, IsPermutation-middle}

-- x stands in the list
abbrev pub In : {A : Type 0} → A → List A → Type 0
In x [] = ⊥
In x (y ∷ ys) = (x ≡ y) ⊎ In x ys

module _ {A : Type 0} where
  -- a member of the first list is one of both
  pub in_left : (x : A) (xs ys : List A) → In x xs → In x (xs ++ ys)
  in_left x [] ys i = elim i [ ]
  in_left x (y ∷ xs) ys (inl e) = inl e
  in_left x (y ∷ xs) ys (inr i) = inr (in_left x xs ys i)

  -- and so is one of the second
  pub in_right : (x : A) (xs ys : List A) → In x ys → In x (xs ++ ys)
  in_right x [] ys i = i
  in_right x (y ∷ xs) ys i = inr (in_right x xs ys i)

  -- a member of both lists is one of the first or of the second
  pub in_both : (x : A) (xs ys : List A) → In x (xs ++ ys) → In x xs ⊎ In x ys
  in_both x [] ys i = inr i
  in_both x (y ∷ xs) ys (inl e) = inl (inl e)
  in_both x (y ∷ xs) ys (inr i) = elim (in_both x xs ys i) [ inl a ↦ inl (inr a) | inr b ↦ inr b ]

  -- a test of all, and of any
  pub all_at : (f : A → Bool) (xs : List A) (x : A) → list_all f xs ≡ true → In x xs → f x ≡ true
  all_at f [] x h i = elim i [ ]
  all_at f (y ∷ xs) x h (inl e) = ap f e ∙ (and_parts (f y) (list_all f xs) h).0
  all_at f (y ∷ xs) x h (inr i) = all_at f xs x (and_parts (f y) (list_all f xs) h).1 i

  -- a test that each member passes is passed by all
  pub all_from : (f : A → Bool) (xs : List A) → ((x : A) → In x xs → f x ≡ true) → list_all f xs ≡ true
  all_from f [] h = refl
  all_from f (y ∷ xs) h = and_from (f y) (list_all f xs) (h y (inl refl)) (all_from f xs (λ x i. h x (inr i)))

  -- where some member passes a test, there is one
  pub any_at : (f : A → Bool) (xs : List A) → list_any f xs ≡ true → (x : A) × In x xs × (f x ≡ true)
  any_at f [] h = absurd (true≢false (sym h))
  any_at f (y ∷ xs) h = elim (or_cases (f y) (list_any f xs) h) [
    | inl e ↦ (y, inl refl, e)
    | inr r ↦ let there = any_at f xs r in (there.0, inr there.1, there.2)
  ]

  -- where a member passes a test, some do
  pub any_from : (f : A → Bool) (xs : List A) (x : A) → In x xs → f x ≡ true → list_any f xs ≡ true
  any_from f [] x i h = elim i [ ]
  any_from f (y ∷ xs) x (inl e) h = or_left (f y) (list_any f xs) (ap f (sym e) ∙ h)
  any_from f (y ∷ xs) x (inr i) h = or_right (f y) (list_any f xs) (any_from f xs x i h)

  -- who is left by a test is a member and passes it
  pub in_filter : (f : A → Bool) (xs : List A) (x : A) → In x (filter f xs) → In x xs × (f x ≡ true)
  in_filter f [] x i = elim i [ ]
  in_filter f (y ∷ xs) x i = go (f y) refl (in_filter f xs x) i
    where
      go : (b : Bool) → f y ≡ b → (In x (filter f xs) → In x xs × (f x ≡ true)) →
          In x (cond b (y ∷ filter f xs) (filter f xs)) → In x (y ∷ xs) × (f x ≡ true)
      go true e rest (inl s) = (inl s, ap f s ∙ e)
      go true e rest (inr j) = let r = rest j in (inr r.0, r.1)
      go false e rest j = let r = rest j in (inr r.0, r.1)

  -- a member that passes a test is left by it
  pub filter_in : (f : A → Bool) (xs : List A) (x : A) → In x xs → f x ≡ true → In x (filter f xs)
  filter_in f [] x i h = elim i [ ]
  filter_in f (y ∷ xs) x (inl s) h = cond_both (f y) (y ∷ filter f xs) (filter f xs) (λ l. In x l) (λ e. inl s)
      (λ e. absurd (true≢false (sym h ∙ ap f s ∙ e)))
  filter_in f (y ∷ xs) x (inr i) h = cond_both (f y) (y ∷ filter f xs) (filter f xs) (λ l. In x l)
      (λ e. inr (filter_in f xs x i h)) (λ e. filter_in f xs x i h)

  -- what is found is a member that passes the test
  pub find_in : (f : A → Bool) (xs : List A) (x : A) → find f xs ≡ Some x → In x xs × (f x ≡ true)
  find_in f [] x h = cc
  find_in f (y ∷ xs) x h = go (f y) refl (find_in f xs x) h
    where
      go : (b : Bool) → f y ≡ b → (find f xs ≡ Some x → In x xs × (f x ≡ true)) →
          cond b (Some y) (find f xs) ≡ Some x → In x (y ∷ xs) × (f x ≡ true)
      go true e rest s = (let is : y ≡ x = cc in (inl (sym is), ap f (sym is) ∙ e))
      go false e rest s = let r = rest s in (inr r.0, r.1)

  -- the list without what stands at a place
  abbrev pub without : List A → ℕ → List A
  without xs at = take at xs ++ drop (suc at) xs

  -- the list without what stands at a place, as the placing writes it
  pub without_is : (xs : List A) (at : ℕ) → take at xs ++ drop (at + 1) xs ≡ without xs at
  without_is xs at = ap (λ n. take at xs ++ drop n xs) (add-one at)

  -- what stands at a place is a member
  pub in_at : (xs : List A) (at : ℕ) (x : A) → slice_get xs at ≡ Some x → In x xs
  in_at [] at x h = cc
  in_at (y ∷ xs) zero x h = (let is : y ≡ x = cc in inl (sym is))
  in_at (y ∷ xs) (suc at) x h = inr (in_at xs at x h)

  -- a member of the rest is one of the list
  pub in_without : (xs : List A) (at : ℕ) (x : A) → In x (without xs at) → In x xs
  in_without [] zero x i = i
  in_without [] (suc at) x i = i
  in_without (y ∷ xs) zero x i = inr i
  in_without (y ∷ xs) (suc at) x (inl e) = inl e
  in_without (y ∷ xs) (suc at) x (inr i) = inr (in_without xs at x i)

  -- a member is what was taken out, or is in the rest
  pub is_or_without : (xs : List A) (at : ℕ) (x y : A) → slice_get xs at ≡ Some x → In y xs →
      (y ≡ x) ⊎ In y (without xs at)
  is_or_without [] at x y h i = elim i [ ]
  is_or_without (z ∷ xs) zero x y h (inl e) = (let is : z ≡ x = cc in inl (e ∙ is))
  is_or_without (z ∷ xs) zero x y h (inr i) = inr i
  is_or_without (z ∷ xs) (suc at) x y h (inl e) = inr (inl e)
  is_or_without (z ∷ xs) (suc at) x y h (inr i) =
      elim (is_or_without xs at x y h i) [ inl e ↦ inl e | inr j ↦ inr (inr j) ]

  -- the rest is one shorter
  pub length_without : (xs : List A) (at : ℕ) (x : A) → slice_get xs at ≡ Some x →
      length xs ≡ suc (length (without xs at))
  length_without [] at x h = cc
  length_without (y ∷ xs) zero x h = refl
  length_without (y ∷ xs) (suc at) x h = ap suc (length_without xs at x h)

  -- a list is what stands before a place, what stands there, and what follows
  pub with_it : (xs : List A) (at : ℕ) (x : A) → slice_get xs at ≡ Some x → xs ≡ take at xs ++ x ∷ drop (suc at) xs
  with_it [] at x h = cc
  with_it (y ∷ xs) zero x h = (let is : y ≡ x = cc in ap (λ z. z ∷ xs) is)
  with_it (y ∷ xs) (suc at) x h = ap (λ zs. y ∷ zs) (with_it xs at x h)

  -- at a place within the list there is what stands there
  slice_at : (xs : List A) (at : ℕ) (d : A) → at < length xs → slice_get xs at ≡ Some (get_or xs at d)
  slice_at [] at d h = absurd (omega (arith, h))
  slice_at (x ∷ xs) zero d h = refl
  slice_at (x ∷ xs) (suc at) d h = slice_at xs at d (omega (arith, h))

  -- the first place that passes a test
  pub position_at : (f : A → Bool) (xs : List A) (at : ℕ) → position f xs ≡ Some at →
      (x : A) × (slice_get xs at ≡ Some x) × (f x ≡ true)
  position_at f [] at h = cc
  position_at f (y ∷ xs) at h =
      let there = position-Some f (y ∷ xs) at y h in
      (get_or (y ∷ xs) at y, slice_at (y ∷ xs) at y there.0, there.1)

  -- the first place that passes a test that a member passes is within the list
  short : (f : A → Bool) (xs : List A) (x : A) → In x xs → f x ≡ true → position_or_len f xs < length xs
  short f [] x i h = elim i [ ]
  short f (y ∷ xs) x (inl e) h = cond_both (not (f y)) (1 + position_or_len f xs) 0 (λ n. n < suc (length xs))
      (λ n. absurd (true≢false (sym n ∙ ap not (ap f (sym e) ∙ h)))) (λ n. omega arith)
  short f (y ∷ xs) x (inr i) h = cond_both (not (f y)) (1 + position_or_len f xs) 0 (λ n. n < suc (length xs))
      (λ n. omega (arith, short f xs x i h)) (λ n. omega arith)

  -- where no place is found, no member passes the test
  pub position_none : (f : A → Bool) (xs : List A) (x : A) → position f xs ≡ None → In x xs → f x ≡ false
  position_none f xs x h i = elim (cases_Bool (f x)) [
    | inr n ↦ n
    | inl y ↦ let found : position f xs ≡ Some (position_or_len f xs) =
        ap (λ b. cond b (Some (position_or_len f xs)) None)
        (lt-ltb (position_or_len f xs) (length xs) (short f xs x i y)) in
        let no : None ≡ Some (position_or_len f xs) = sym h ∙ found in cc
  ]

  -- one of least place
  pub least : (place : A → ℕ) (x : A) (xs : List A) →
      (y : A) × In y (x ∷ xs) × ((z : A) → In z (x ∷ xs) → place y ≤ place z)
  least place x [] = (x, inl refl, λ z i. elim i [ inl e ↦ omega (arith, ap place e) | inr n ↦ absurd n ])
  least place x (w ∷ xs) =
      let rest = least place w xs in
      elim (cases_lt (place x) (place rest.0)) [
        | inl l ↦ (
          x,
          inl refl,
          λ z i. elim i [
            | inl e ↦ omega (arith, ap place e)
            | inr j ↦ omega
                (arith, l, rest.2 z j)
          ],
        )
        | inr g ↦ (rest.0, inr rest.1, λ z i. elim i [ inl e ↦ omega (arith, ap place e, g) | inr j ↦ rest.2 z j ])
      ]

module _ {A B : Type 0} where
  -- a member of the images is the image of a member
  pub in_map : (f : A → B) (xs : List A) (y : B) → In y (map f xs) → (x : A) × In x xs × (y ≡ f x)
  in_map f [] y i = elim i [ ]
  in_map f (x ∷ xs) y (inl e) = (x, inl refl, e)
  in_map f (x ∷ xs) y (inr i) = let r = in_map f xs y i in (r.0, inr r.1, r.2)

  -- the image of a member is a member of the images
  pub map_in : (f : A → B) (xs : List A) (x : A) → In x xs → In (f x) (map f xs)
  map_in f [] x i = elim i [ ]
  map_in f (y ∷ xs) x (inl e) = inl (ap f e)
  map_in f (y ∷ xs) x (inr i) = inr (map_in f xs x i)

  -- a member of joined lists is one of the list of some member
  pub in_flat_map : (f : A → List B) (xs : List A) (y : B) → In y (flat_map f xs) → (x : A) × In x xs × In y (f x)
  in_flat_map f [] y i = elim i [ ]
  in_flat_map f (x ∷ xs) y i = elim (in_both y (f x) (flat_map f xs) i) [
    | inl a ↦ (x, inl refl, a)
    | inr b ↦ let r = in_flat_map f xs y b in (r.0, inr r.1, r.2)
  ]

  -- and each of those is a member of the joined lists
  pub flat_map_in : (f : A → List B) (xs : List A) (x : A) (y : B) → In x xs → In y (f x) → In y (flat_map f xs)
  flat_map_in f [] x y j i = elim j [ ]
  flat_map_in f (z ∷ xs) x y (inl e) i = in_left y (f z) (flat_map f xs) (subst (λ a. In y (f a)) e i)
  flat_map_in f (z ∷ xs) x y (inr j) i = in_right y (f z) (flat_map f xs) (flat_map_in f xs x y j i)

  -- a member of the images that there are is the image of a member
  pub in_filter_map : (f : A → Option B) (xs : List A) (y : B) → In y (filter_map f xs) →
      (x : A) × In x xs × (f x ≡ Some y)
  in_filter_map f [] y i = elim i [ ]
  in_filter_map f (x ∷ xs) y i = go (f x) refl (in_filter_map f xs y) i
    where
      go : (o : Option B) → f x ≡ o → (In y (filter_map f xs) → (z : A) × In z xs × (f z ≡ Some y)) →
          In y (cons_option o (filter_map f xs)) → (z : A) × In z (x ∷ xs) × (f z ≡ Some y)
      go None e rest j = let r = rest j in (r.0, inr r.1, r.2)
      go (Some w) e rest (inl s) = (x, inl refl, e ∙ ap Some (sym s))
      go (Some w) e rest (inr j) = let r = rest j in (r.0, inr r.1, r.2)

  -- and each image that there is is one of them
  pub filter_map_in : (f : A → Option B) (xs : List A) (x : A) (y : B) → In x xs → f x ≡ Some y → In y (filter_map f xs)
  filter_map_in f [] x y i h = elim i [ ]
  filter_map_in f (z ∷ xs) x y i h = go (f z) refl i (filter_map_in f xs x y)
    where
      go : (o : Option B) → f z ≡ o → In x (z ∷ xs) → (In x xs → f x ≡ Some y → In y (filter_map f xs)) →
          In y (cons_option o (filter_map f xs))
      go None e (inl s) rest = let no : None ≡ Some y = sym e ∙ ap f (sym s) ∙ h in cc
      go None e (inr j) rest = rest j h
      go (Some w) e (inl s) rest = let is : Some y ≡ Some w = sym h ∙ ap f s ∙ e in inl cc
      go (Some w) e (inr j) rest = inr (rest j h)

-- the numbers of a range
pub in_range : (a n x : ℕ) → In x (range_with_len a n) → (a ≤ x) × (x < a + n)
in_range a zero x i = elim i [ ]
in_range a (suc n) x (inl e) = (omega (arith, e), omega (arith, e))
in_range a (suc n) x (inr i) = let r = in_range (a + 1) n x i in (omega (arith, r.0), omega (arith, r.1))

-- a number within the range is one of its members
pub range_in : (a n x : ℕ) → a ≤ x → x < a + n → In x (range_with_len a n)
range_in a zero x l h = absurd (omega (arith, l, h))
range_in a (suc n) x l h = elim (cases_lt a x) [
  | inl m ↦ inr (range_in (a + 1) n x (omega (arith, m)) (omega (arith, h)))
  | inr g ↦ inl (omega (arith, g, l))
]

-- ---- lists in another order

module _ {A B : Type 0} where
  -- joined lists of two lists are those of the first, then those of the second
  pub flat_map_append : (f : A → List B) (xs ys : List A) → flat_map f (xs ++ ys) ≡ flat_map f xs ++ flat_map f ys
  flat_map_append f [] ys = refl
  flat_map_append f (x ∷ xs) ys = ap (λ zs. f x ++ zs) (flat_map_append f xs ys)
      ∙ sym (append_assoc (f x) (flat_map f xs) (flat_map f ys))

module _ {A : Type 0} where
  -- each stands once
  abbrev pub Once : List A → Type 0
  Once [] = Unit {0}
  Once (x ∷ xs) = (In x xs → ⊥) × Once xs

  -- a list can be cut at each of its members
  pub in_cut : (x : A) (xs : List A) → In x xs → (front : List A) × (back : List A) × (xs ≡ front ++ x ∷ back)
  in_cut x [] i = elim i [ ]
  in_cut x (y ∷ xs) (inl e) = ([], xs, ap (λ z. z ∷ xs) (sym e))
  in_cut x (y ∷ xs) (inr i) = let r = in_cut x xs i in (y ∷ r.0, r.1, ap (λ zs. y ∷ zs) r.2)

  -- a member of a cut list is the one of the cut or one of the rest
  pub in_middle : (z x : A) (front back : List A) → In z (front ++ x ∷ back) → (z ≡ x) ⊎ In z (front ++ back)
  in_middle z x [] back (inl e) = inl e
  in_middle z x [] back (inr i) = inr i
  in_middle z x (y ∷ front) back (inl e) = inr (inl e)
  in_middle z x (y ∷ front) back (inr i) = elim (in_middle z x front back i) [ inl e ↦ inl e | inr j ↦ inr (inr j) ]

  -- a member of the rest is one of the cut list
  pub middle_in : (z x : A) (front back : List A) → In z (front ++ back) → In z (front ++ x ∷ back)
  middle_in z x [] back i = inr i
  middle_in z x (y ∷ front) back (inl e) = inl e
  middle_in z x (y ∷ front) back (inr i) = inr (middle_in z x front back i)

  -- where each stands once, the one of the cut is not in the rest
  pub once_middle : (x : A) (front back : List A) → Once (front ++ x ∷ back) →
      (In x (front ++ back) → ⊥) × Once (front ++ back)
  once_middle x [] back o = o
  once_middle x (y ∷ front) back o =
      let rest = once_middle x front back o.1 in (
        (λ i. elim i [
          | inl e ↦ o.0 (subst (λ z. In z (front ++ x ∷ back)) e
              (in_right x front (x ∷ back) (inl refl)))
          | inr j ↦ rest.0 j
        ]),
        ((λ i. o.0 (middle_in y x front back i)), rest.1),
      )

  -- two lists of the same members, each once, are one another in another order
  pub same_members : (xs ys : List A) → Once xs → Once ys → ((x : A) → In x xs → In x ys) →
      ((x : A) → In x ys → In x xs) → IsPermutation xs ys
  same_members [] [] o p there back = IsPermutation-refl []
  same_members [] (y ∷ ys) o p there back = elim (back y (inl refl)) [ ]
  same_members (x ∷ xs) ys o p there back =
      let cut = in_cut x ys (there x (inl refl)) in
      let front = cut.0 in
      let later = cut.1 in
      let q = once_middle x front later (subst Once cut.2 p) in
      let rest = same_members xs (front ++ later) o.1 q.1
      (λ z i. elim (in_middle z x front later (subst (In z) cut.2 (there z (inr i))))
      [ inl e ↦ absurd (o.0 (subst (λ w. In w xs) e i)) | inr j ↦ j ])
      (λ z i. elim (back z (subst (In z) (sym cut.2) (middle_in z x front later i)))
      [ inl e ↦ absurd (q.0 (subst (λ w. In w (front ++ later)) e i)) | inr j ↦ j ]) in
      subst (IsPermutation (x ∷ xs)) (sym cut.2)
      (IsPermutation-trans (x ∷ xs) (x ∷ (front ++ later)) (front ++ x ∷ later)
      (IsPermutation-cons x xs (front ++ later) rest)
      (IsPermutation-sym (front ++ x ∷ later) (x ∷ (front ++ later)) (IsPermutation-middle front x later)))

-- two lists without a common member have each once together
pub once_both : {A : Type 0} → (xs ys : List A) → Once xs → Once ys → ((x : A) → In x xs → In x ys → ⊥) →
    Once (xs ++ ys)
once_both [] ys o q n = q
once_both (x ∷ xs) ys o q n = (
  (λ i. elim (in_both x xs ys i) [ inl j ↦ o.0 j | inr j ↦ n x (inl refl) j ]),
  once_both xs ys o.1 q (λ z i. n z (inr i)),
)
