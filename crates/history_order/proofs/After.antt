-- What is read after writes: what one of those that were meant for the place wrote, or what stood there before.
use Rattle.std.proofs.Common.{◌≡◌, ℕ, zero, suc, ◌+◌, ◌<◌, ◌⊎◌, Bool, true, false, cond, List, [], ◌∷◌, length, Option, Some, None, refl, inl, inr, sym, ap, ◌∙◌, subst, arith, eqb-true, eq-eqb, lt-ltb, true≢false}
use Rattle.std.specs.Prelude.{◌&&◌, nat_lt, slice_get, filter}
use Rattle.std.proofs.lemmas.Bool.{and_parts, and_from, cases_Bool}
use Rattle.list_laws.proofs.Lists.{In}
use Rattle.history_order.specs.Columns.{hits, written, after_all, numbered_from, place_of}
use Rattle.std.proofs.Math.Numerals.{add-one}
use Rattle.std.proofs.Math.Nat.{add-zero}
use Rattle.list_laws.proofs.Numbers.{plus_none, plus_suc}

-- a write that is meant for the place
hit_is : (at : Option ℕ) (place : ℕ) → hits at place ≡ true → at ≡ Some place
hit_is None place h = absurd (true≢false (sym h))
hit_is (Some n) place h = ap Some (eqb-true n place h)

-- is so
is_hit : (at : Option ℕ) (place : ℕ) → at ≡ Some place → hits at place ≡ true
is_hit None place h = cc
is_hit (Some n) place h = (let is : n ≡ place = cc in eq-eqb n place is)

module _ {A B : Type 0} (at : B → Option ℕ) (value : B → A) (place many : ℕ) where
  -- what one wrote
  pub record Wrote (xs : List B) (before : A) : Type 0 where
    pub by : B
    pub there : In by xs
    pub here : at by ≡ Some place
    pub is : after_all at value place many xs before ≡ value by

  -- or none did
  pub record Kept (xs : List B) (before : A) : Type 0 where
    pub is : after_all at value place many xs before ≡ before
    pub none : (x : B) → In x xs → at x ≡ Some place → place < many → ⊥

  -- one of the two
  pub after_cases : (xs : List B) (before : A) → Wrote xs before ⊎ Kept xs before
  after_cases [] before = inr (record { is = refl; none = λ x i e less. elim i [ ] })
  after_cases (x ∷ xs) before = elim (after_cases xs (written place many (at x) (value x) before)) [
    | inl wrote ↦ inl (record { by = wrote.by; there = inr wrote.there; here = wrote.here; is = wrote.is })
    | inr kept ↦ elim (cases_Bool (hits (at x) place && nat_lt place many)) [
      | inl e ↦ inl (record {
        by = x;
        there = inl refl;
        here = hit_is (at x) place (and_parts (hits (at x) place) (nat_lt place many) e).0;
        is = kept.is ∙ ap (λ b. cond b (value x) before) e;
      })
      | inr e ↦ inr (record {
        is = kept.is ∙ ap (λ b. cond b (value x) before) e;
        none = λ y i h less. elim i [
          | inl same ↦ true≢false (sym (and_from (hits (at x) place) (nat_lt place many)
              (is_hit (at x) place (ap at (sym same) ∙ h)) (lt-ltb place many less)) ∙ e)
          | inr j ↦ kept.none y j h less
        ];
      })
    ]
  ]

-- the number that a place is of
pub place_number : (o : Option ℕ) (place : ℕ) → place_of o ≡ Some place → o ≡ Some (place + 1)
place_number None place e = cc
place_number (Some zero) place e = cc
place_number (Some (suc n)) place e = (let is : n ≡ place = cc in ap Some (one n place is))
  where
    one : (a b : ℕ) → a ≡ b → suc a ≡ b + 1
    one a b e = omega (arith, e)

-- and its place
pub number_place : (o : Option ℕ) (place : ℕ) → o ≡ Some (place + 1) → place_of o ≡ Some place
number_place o place e = ap place_of (e ∙ ap Some (add-one place))

-- a member with its place
pub numbered_in : {A : Type 0} → (from : ℕ) (xs : List A) (x : ℕ × A) → In x (numbered_from from xs) →
    (i : ℕ) × (x.0 ≡ from + i) × (slice_get xs i ≡ Some x.1)
numbered_in from [] x m = elim m [ ]
numbered_in from (y ∷ ys) x (inl e) = (0, ap (λ p. p.0) e ∙ plus_none from, ap (λ p. Some p.1) (sym e))
numbered_in from (y ∷ ys) x (inr m) =
    let r = numbered_in (from + 1) ys x m in (suc r.0, r.1 ∙ plus_suc from r.0, r.2)

-- stands there with it
pub in_numbered : {A : Type 0} → (from : ℕ) (xs : List A) (i : ℕ) (x : A) → slice_get xs i ≡ Some x →
    In (from + i, x) (numbered_from from xs)
in_numbered from [] i x h = cc
in_numbered {A = A} from (y ∷ ys) zero x h = (let is : y ≡ x = cc in inl (same is))
  where
    pair : ℕ → A → ℕ × A
    pair n z = (n, z)

    same : y ≡ x → pair (from + 0) x ≡ pair from y
    same is = ap (λ n. pair n x) (add-zero from) ∙ ap (pair from) (sym is)
in_numbered {A = A} from (y ∷ ys) (suc i) x h =
    inr (subst (λ n. In (pair n x) (numbered_from (from + 1) ys)) (plus_suc from i) (in_numbered (from + 1) ys i x h))
  where
    pair : ℕ → A → ℕ × A
    pair n z = (n, z)

-- tests that agree on the members leave the same
pub filter_same : {A : Type 0} → (f g : A → Bool) (xs : List A) → ((x : A) → In x xs → f x ≡ g x) →
    filter f xs ≡ filter g xs
filter_same f g [] h = refl
filter_same f g (x ∷ xs) h =
    ap (λ b. cond b (x ∷ filter f xs) (filter f xs)) (h x (inl refl))
    ∙ ap (λ ys. cond (g x) (x ∷ ys) ys) (filter_same f g xs (λ y i. h y (inr i)))

-- a member stands somewhere
pub at_in : {A : Type 0} → (xs : List A) (x : A) → In x xs → (i : ℕ) × (slice_get xs i ≡ Some x) × (i < length xs)
at_in [] x m = elim m [ ]
at_in (y ∷ ys) x (inl e) = (0, ap Some (sym e), omega arith)
at_in (y ∷ ys) x (inr m) = let r = at_in ys x m in (suc r.0, r.1, omega (arith, r.2))
