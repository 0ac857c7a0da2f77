-- Lines of rows by their bases, and each number once.
use Rattle.std.proofs.Common.{◌≡◌, ◌≢◌, ℕ, zero, suc, ◌+◌, ◌<◌, ◌≤◌, Bool, true, false, cond, List, [], ◌∷◌, Option, Some, None, true≢false, add-one, refl, inl, inr, sym, ap, ◌∙◌, subst, arith, eqb-true, eq-eqb}
use Rattle.std.specs.Prelude.{◌==◌, find}
use Rattle.std.proofs.lemmas.Bool.{cases_eq, cond-true, cond-false, ne_eqb}
use Rattle.table_model.specs.Reading.{line, is_among, each_once}
use Rattle.list_laws.proofs.Lists.{In, Once, any_at}
use Rattle.list_laws.proofs.Pigeons.{seek}
use Rattle.placing_laws.proofs.Stuck.{among_in}

-- ---- distinct numbers below n are at most n

-- the numbers from one on, with one of them at the place of the last
abbrev moved : (ℕ → ℕ) → ℕ → ℕ → ℕ → ℕ
moved f i x j = cond (j == i) x (f j)

-- so many different numbers below a bound are no more than the bound
pub pigeons : (n k : ℕ) (f : ℕ → ℕ) → ((i : ℕ) → i < k → f i < n) → ((i j : ℕ) → i < k → j < k → f i ≡ f j → i ≡ j) →
    k ≤ n
pigeons n zero f below once = omega arith
pigeons zero (suc k) f below once = absurd (omega (arith, below 0 (omega arith)))
pigeons (suc n) (suc k) f below once = elim (seek f n (suc k)) [
  | inr never ↦ omega (
    arith,
    pigeons n k f (λ i h. let b = below i (omega (arith, h)) in
        let m = never i (omega (arith, h)) in omega (arith, b, m))
        (λ i j h l e. once i j (omega (arith, h)) (omega (arith, l)) e),
  )
  | inl r ↦
      let i = r.0 in
      let g = moved f i (f k) in
      let rest : k ≤ n = pigeons n k g
      (λ j h. elim (cases_eq j i) [
        | inl e ↦ let last : f k ≢ n = (λ x. absurd (omega
            (arith, h, once k i (omega arith) r.1 (x ∙ sym r.2), e))) in
            let b = below k (omega arith) in
            subst (λ x. x < n) (sym (cond-true (j == i) (f k) (f j) (eq-eqb j i e))) (omega (arith, b, last))
        | inr d ↦ let other : f j ≢ n = (λ x. d (once j i (omega (arith, h)) r.1 (x ∙ sym r.2))) in
            let b = below j (omega (arith, h)) in
            subst (λ x. x < n) (sym (cond-false (j == i) (f k) (f j) (ne_eqb j i d))) (omega (arith, b, other))
      ])
      (λ j l h m e. elim (cases_eq j i) [
        | inl a ↦ elim (cases_eq l i) [
          | inl b ↦ a ∙ sym b
          | inr b ↦ absurd (omega (
            arith,
            m,
            once k l (omega arith) (omega (arith, m))
                (sym (cond-true (j == i) (f k) (f j) (eq-eqb j i a)) ∙ e
                ∙ cond-false (l == i) (f k) (f l) (ne_eqb l i b)),
          ))
        ]
        | inr a ↦ elim (cases_eq l i) [
          | inl b ↦ absurd (omega (
            arith,
            h,
            once j k (omega (arith, h)) (omega arith)
                (sym (cond-false (j == i) (f k) (f j) (ne_eqb j i a)) ∙ e
                ∙ cond-true (l == i) (f k) (f l) (eq-eqb l i b)),
          ))
          | inr b ↦ once j l (omega (arith, h)) (omega (arith, m))
              (sym (cond-false (j == i) (f k) (f j) (ne_eqb j i a)) ∙ e
              ∙ cond-false (l == i) (f k) (f l) (ne_eqb l i b))
        ]
      ]) in
      omega (arith, rest)
]

-- ---- each number once

-- what is among numbers is a member
pub among_is_in : (xs : List ℕ) (x : ℕ) → is_among xs x ≡ true → In x xs
among_is_in xs x h = (let there = any_at (λ other. other == x) xs h in
    subst (λ n. In n xs) (eqb-true there.0 x there.2) there.1)

-- who is kept is a member
pub each_in : (xs : List ℕ) (x : ℕ) → In x (each_once xs) → In x xs
each_in [] x i = i
each_in (y ∷ xs) x i = go (is_among xs y) (each_in xs x) i
  where
    go : (b : Bool) → (In x (each_once xs) → In x xs) → In x (cond b (each_once xs) (y ∷ each_once xs)) → In x (y ∷ xs)
    go true rest j = inr (rest j)
    go false rest (inl e) = inl e
    go false rest (inr j) = inr (rest j)

-- and each member is kept
pub in_each : (xs : List ℕ) (x : ℕ) → In x xs → In x (each_once xs)
in_each [] x i = i
in_each (y ∷ xs) x i = go (is_among xs y) refl i (in_each xs x)
  where
    go : (b : Bool) → is_among xs y ≡ b → In x (y ∷ xs) → (In x xs → In x (each_once xs)) →
        In x (cond b (each_once xs) (y ∷ each_once xs))
    go true e (inl s) rest = rest (subst (λ n. In n xs) (sym s) (among_is_in xs y e))
    go true e (inr j) rest = rest j
    go false e (inl s) rest = inl s
    go false e (inr j) rest = inr (rest j)

-- none is kept twice
pub each_is_once : (xs : List ℕ) → Once (each_once xs)
each_is_once [] = tt
each_is_once (y ∷ xs) = go (is_among xs y) refl (each_is_once xs)
  where
    go : (b : Bool) → is_among xs y ≡ b → Once (each_once xs) → Once (cond b (each_once xs) (y ∷ each_once xs))
    go true e rest = rest
    go false e rest = ((λ i. true≢false (sym (among_in xs y (each_in xs y i)) ∙ e)), rest)

-- ---- lines

-- from no row there is no line
pub line_none : (base : ℕ → Option ℕ) (fuel : ℕ) → line base fuel None ≡ []
line_none base zero = refl
line_none base (suc fuel) = refl

-- what each base keeps holds of the whole line
pub line_keeps : (base : ℕ → Option ℕ) (P : ℕ → Type 0) → ((r s : ℕ) → P r → base r ≡ Some s → P s) →
    (fuel row x : ℕ) → P row → In x (line base fuel (Some row)) → P x
line_keeps base P step zero row x h i = elim i [ ]
line_keeps base P step (suc fuel) row x h (inl e) = subst P (sym e) h
line_keeps base P step (suc fuel) row x h (inr i) = go (base row) refl (λ s. line_keeps base P step fuel s x) i
  where
    go : (o : Option ℕ) → base row ≡ o → ((s : ℕ) → P s → In x (line base fuel (Some s)) → P x) →
        In x (line base fuel o) → P x
    go None e rest j = elim (subst (In x) (line_none base fuel) j) [ ]
    go (Some s) e rest j = rest s (step row s h e) j

module _ (base : ℕ → Option ℕ) (f : ℕ → ℕ) (top : ℕ) (bases : (i : ℕ) → i < top → base (f (i + 1)) ≡ Some (f i)) where
  -- each row of the line is made from the one before it
  next_base : (i : ℕ) → i < top → base (f (suc i)) ≡ Some (f i)
  next_base i h = subst (λ n. base (f n) ≡ Some (f i)) (add-one i) (bases i h)

  -- a line has all rows before it, where it is long enough
  pub line_has : (fuel i j : ℕ) → i ≤ top → j ≤ i → i < fuel + j → In (f j) (line base fuel (Some (f i)))
  line_has zero i j o l h = absurd (omega (arith, l, h))
  line_has (suc fuel) zero j o l h = inl (ap f (omega (arith, l)))
  line_has (suc fuel) (suc i) j o l h = elim (cases_eq j (suc i)) [
    | inl e ↦ inl (ap f e)
    | inr d ↦ inr (subst (λ q. In (f j) (line base fuel q)) (sym (next_base i (omega (arith, o))))
        (line_has fuel i j (omega (arith, o)) (omega (arith, l, d)) (omega (arith, h))))
  ]

  -- the first that fails the test, where the test holds of all but the row at 0
  pub line_first : (t : ℕ → Bool) → ((i : ℕ) → i < top → t (f (i + 1)) ≡ false) → t (f 0) ≡ true → (fuel i : ℕ) →
      i ≤ top → i < fuel → find t (line base fuel (Some (f i))) ≡ Some (f 0)
  line_first t passes last zero i o h = absurd (omega (arith, h))
  line_first t passes last (suc fuel) zero o h =
      cond-true (t (f 0)) (Some (f 0)) (find t (line base fuel (base (f 0)))) last
  line_first t passes last (suc fuel) (suc i) o h =
      cond-false (t (f (suc i))) (Some (f (suc i))) (find t (line base fuel (base (f (suc i)))))
      (subst (λ n. t (f n) ≡ false) (add-one i) (passes i (omega (arith, o))))
      ∙ ap (λ q. find t (line base fuel q)) (next_base i (omega (arith, o)))
      ∙ line_first t passes last fuel i (omega (arith, o)) (omega (arith, h))

  -- where the row at 0 has no base, the line has these alone
  pub line_only : base (f 0) ≡ None → (fuel i x : ℕ) → i ≤ top → In x (line base fuel (Some (f i))) →
      (j : ℕ) × (j ≤ i) × (x ≡ f j)
  line_only none zero i x o m = elim m [ ]
  line_only none (suc fuel) i x o (inl e) = (i, omega arith, e)
  line_only none (suc fuel) zero x o (inr m) =
      elim (subst (In x) (line_none base fuel) (subst (λ q. In x (line base fuel q)) none m)) [ ]
  line_only none (suc fuel) (suc i) x o (inr m) =
      let r = line_only none fuel i x (omega (arith, o))
      (subst (λ q. In x (line base fuel q)) (next_base i (omega (arith, o))) m) in
      (r.0, omega (arith, r.1), r.2)

  -- no row comes twice in the line
  pub line_once : base (f 0) ≡ None → ((i j : ℕ) → i ≤ top → j ≤ top → f i ≡ f j → i ≡ j) → (fuel i : ℕ) → i ≤ top →
      Once (line base fuel (Some (f i)))
  line_once none once zero i o = tt
  line_once none once (suc fuel) zero o = (
    (λ m. elim (subst (In (f 0)) (line_none base fuel)
        (subst (λ q. In (f 0) (line base fuel q)) none m)) [ ]),
    subst (λ q. Once (line base fuel q)) (sym none) (subst Once (sym (line_none base fuel)) tt),
  )
  line_once none once (suc fuel) (suc i) o =
      let before = next_base i (omega (arith, o)) in (
        (λ m. let r = line_only none fuel i (f (suc i)) (omega (arith, o))
            (subst (λ q. In (f (suc i)) (line base fuel q)) before m) in
            omega (arith, r.1, once (suc i) r.0 o (omega (arith, o, r.1)) r.2)),
        subst (λ q. Once (line base fuel q)) (sym before) (line_once none once fuel i (omega (arith, o))),
      )
