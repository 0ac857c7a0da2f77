-- The entries of a row: the number that a seat has there, and where an entry is found.
use Rattle.std.proofs.Common.{◌≡◌, ◌≢◌, ℕ, suc, ◌+◌, ◌<◌, ◌≤◌, max, inl, inr, Bool, true, false, cond, List, [], ◌∷◌, ◌++◌, length, Option, Some, None, refl, sym, ap, ◌∙◌, subst, arith, append-nil}
use Rattle.std.specs.Prelude.{◌==◌, ◌&&◌}
use Rattle.std.proofs.lemmas.Bool.{cases_eq, cases_lt, cond_both, eqb-true, eqb-false}
use Rattle.plain_map.specs.declared.rules.Rules.{Rules}
use Rattle.exchange_model.specs.Plans.{Plan, more}
use Rattle.exchange_model.specs.Codes.{Entry}
use Rattle.exchange_model.specs.Steps.{Found, NoOp, Keeps, Takes, Makes, Change, with_found, with_all, bucket_of_call}
use Rattle.exchange_model.specs.Goes.{entry_for}
use Rattle.exchange_laws.proofs.Announcing as A

-- the highest number of an entry of this seat, and one; 0 where there is none
abbrev pub most : (q : ℕ) → List Entry → ℕ
most q [] = 0
most q (e ∷ entries) = cond (e.seat == q) (max (e.number + 1) (most q entries)) (most q entries)

abbrev some_or : Entry → Option Entry → Entry
some_or d None = d
some_or d (Some e) = e

abbrev how_many : Option Entry → ℕ
how_many None = 0
how_many (Some e) = 1

-- an entry that is found is one of the seat, with that number
pub entry_told : (q n : ℕ) (entries : List Entry) (e : Entry) → entry_for q n entries ≡ Some e →
    (e.seat ≡ q) × (e.number ≡ n) × (n + 1 ≤ most q entries)
entry_told q n [] e is = absurd (omega (arith, ap how_many is))
entry_told q n (d ∷ entries) e is = go (entry_told q n entries e) (d.seat == q) refl (d.number == n) refl is
  where
    m : ℕ
    m = most q entries

    go : (entry_for q n entries ≡ Some e → (e.seat ≡ q) × (e.number ≡ n) × (n + 1 ≤ m)) → (a : Bool) →
        (d.seat == q) ≡ a →
        (c : Bool) → (d.number == n) ≡ c → cond (a && c) (Some d) (entry_for q n entries) ≡ Some e →
        (e.seat ≡ q) × (e.number ≡ n) × (n + 1 ≤ cond a (max (d.number + 1) m) m)
    go later true s true k is =
        let same = ap (some_or d) is in
        let number : d.number ≡ n = eqb-true d.number n k in (
          ap (λ (x : Entry). x.seat) (sym same) ∙ eqb-true d.seat q s,
          ap (λ (x : Entry). x.number) (sym same)
              ∙ number,
          omega (arith, number),
        )
    go later true s false k is = (let old = later is in (old.0, old.1, (let o = old.2 in omega (arith, o))))
    go later false s c k is = later is

-- and where none is found the seat has not got that number
pub entry_none : (q n : ℕ) (entries : List Entry) → entry_for q n entries ≡ None → most q entries ≢ n + 1
entry_none q n [] is e = omega (arith, e)
entry_none q n (d ∷ entries) is e = go (entry_none q n entries) (d.seat == q) (d.number == n) refl is e
  where
    m : ℕ
    m = most q entries

    go : (entry_for q n entries ≡ None → m ≢ n + 1) → (a c : Bool) → (d.number == n) ≡ c →
        cond (a && c) (Some d) (entry_for q n entries) ≡ None →
        cond a (max (d.number + 1) m) m ≢ n + 1
    go later true true k is e = omega (arith, ap how_many is)
    go later true false k is e = elim (cases_lt m (d.number + 1)) [
      | inl l ↦ eqb-false d.number n k (omega (arith, l, e))
      | inr g ↦ later is (omega (arith, g, e))
    ]
    go later false c k is e = later is e

-- ---- one entry more

pub most_other : (q : ℕ) (entries : List Entry) (e : Entry) → e.seat ≢ q → most q (entries ++ e ∷ []) ≡ most q entries
most_other q [] e n =
    cond_both (e.seat == q) (max (e.number + 1) 0) 0 (λ k. k ≡ 0) (λ i. absurd (n (eqb-true e.seat q i))) (λ _. refl)
most_other q (d ∷ entries) e n =
    ap (λ m. cond (d.seat == q) (max (d.number + 1) m) m) (most_other q entries e n)

pub most_same : (q : ℕ) (entries : List Entry) (e : Entry) → e.seat ≡ q → most q entries ≡ 0 →
    most q (entries ++ e ∷ []) ≡ e.number + 1
most_same q [] e s none =
    cond_both (e.seat == q) (max (e.number + 1) 0) 0 (λ k. k ≡ e.number + 1) (λ _. omega arith)
    (λ i. absurd (eqb-false e.seat q i s))
most_same q (d ∷ entries) e s none = go (most_same q entries e s) (d.seat == q) none
  where
    go : (most q entries ≡ 0 → most q (entries ++ e ∷ []) ≡ e.number + 1) → (a : Bool) →
        cond a (max (d.number + 1) (most q entries)) (most q entries) ≡ 0 →
        cond a (max (d.number + 1) (most q (entries ++ e ∷ []))) (most q (entries ++ e ∷ [])) ≡ e.number + 1
    go later true none = absurd (omega (arith, none))
    go later false none = later none

-- ---- what an exchange makes of the entries

module _ (plan : Plan) (b : ℕ) (seen : ℕ → ℕ) (fs : ℕ → A.Found) where
  -- what was found of a seat, in the table and in the protocol; and of the seats from this one on
  abbrev pub One : (q : ℕ) → Found → Type 0
  One q NoOp = fs q ≡ A.NoOp
  One q (Keeps e) = (fs q ≡ A.Keep) × (e.seat ≡ q) × (e.number + 1 ≡ seen q)
  One q (Takes op) = (fs q ≡ A.Take op.number) × (bucket_of_call plan op.call ≡ b)
  One q (Makes call) = (fs q ≡ A.NoOp) × (bucket_of_call plan call ≡ b)

  abbrev pub Match : (q : ℕ) → List Found → Type 0
  Match q [] = Unit {0}
  Match q (f ∷ later) = One q f × Match (suc q) later

  abbrev new_entry : (q : ℕ) → ℕ
  new_entry q = A.next_entry (fs q) (seen q)

  -- a seat that is gone past leaves the others' entries
  one_other : (rules : Rules) (c : Change) (k : ℕ) (f : Found) (q : ℕ) → One k f → k ≢ q →
      most q (with_found rules c k f).row.entries ≡ most q c.row.entries
  one_other rules c k NoOp q o n = refl
  one_other rules c k (Keeps e) q o n = most_other q c.row.entries e (λ i. n (sym o.1 ∙ i))
  one_other rules c k (Takes op) q o n = most_other q c.row.entries _ n
  one_other rules c k (Makes call) q o n = ap (most q) (append-nil c.row.entries)

  one_same : (rules : Rules) (c : Change) (k : ℕ) (f : Found) → One k f → most k c.row.entries ≡ 0 →
      most k (with_found rules c k f).row.entries ≡ new_entry k
  one_same rules c k NoOp o none = none ∙ sym (ap (λ (g : A.Found). A.next_entry g (seen k)) o)
  one_same rules c k (Keeps e) o none =
      most_same k c.row.entries e o.1 none ∙ o.2 ∙ sym (ap (λ (g : A.Found). A.next_entry g (seen k)) o.0)
  one_same rules c k (Takes op) o none =
      most_same k c.row.entries _ refl none ∙ sym (ap (λ (g : A.Found). A.next_entry g (seen k)) o.0)
  one_same rules c k (Makes call) o none =
      ap (most k) (append-nil c.row.entries) ∙ none ∙ sym (ap (λ (g : A.Found). A.next_entry g (seen k)) o.0)

  all_other : (rules : Rules) (c : Change) (k : ℕ) (found : List Found) (q : ℕ) → Match k found → q < k →
      most q (with_all rules c k found).row.entries ≡ most q c.row.entries
  all_other rules c k [] q o n = refl
  all_other rules c k (f ∷ found) q o n =
      all_other rules (with_found rules c k f) (suc k) found q o.1 (omega (arith, n))
      ∙ one_other rules c k f q o.0 (λ e. omega (arith, e, n))

  -- a seat that is gone through has the entry of what was found of it
  pub all_entries : (rules : Rules) (c : Change) (k : ℕ) (found : List Found) (q : ℕ) → Match k found → k ≤ q →
      q < k + length found → most q c.row.entries ≡ 0 → most q (with_all rules c k found).row.entries ≡ new_entry q
  all_entries rules c k [] q o low high none = absurd (omega (arith, low, high))
  all_entries rules c k (f ∷ found) q o low high none = elim (cases_eq k q) [
    | inl e ↦
        all_other rules (with_found rules c k f) (suc k) found q o.1 (omega (arith, e))
        ∙ subst (λ j. most j (with_found rules c k f).row.entries ≡ new_entry j) e
        (one_same rules c k f o.0 (ap (λ j. most j c.row.entries) e ∙ none))
    | inr n ↦
        all_entries rules (with_found rules c k f) (suc k) found q o.1 (omega (arith, low, n)) (omega (arith, high))
        (one_other rules c k f q o.0 n ∙ none)
  ]

module _ (plan : Plan) (b : ℕ) (seen : ℕ → ℕ) where
  one_still : (fs gs : ℕ → A.Found) (k : ℕ) (d : Found) → gs k ≡ fs k → One plan b seen fs k d → One plan b seen gs k d
  one_still fs gs k NoOp e o = e ∙ o
  one_still fs gs k (Keeps entry) e o = (e ∙ o.0, o.1, o.2)
  one_still fs gs k (Takes op) e o = (e ∙ o.0, o.1)
  one_still fs gs k (Makes call) e o = (e ∙ o.0, o.1)

  pub match_still : (fs gs : ℕ → A.Found) (k : ℕ) (found : List Found) → Match plan b seen fs k found →
      ((q : ℕ) → q < k + length found → gs q ≡ fs q) → Match plan b seen gs k found
  match_still fs gs k [] m same = tt
  match_still fs gs k (d ∷ found) m same = (
    one_still fs gs k d (same k (omega arith)) m.0,
    match_still fs gs (suc k) found m.1 (λ q less. same q (omega (arith, less))),
  )

  -- with one more
  pub match_end : (fs : ℕ → A.Found) (k : ℕ) (found : List Found) (f : Found) → Match plan b seen fs k found →
      One plan b seen fs (k + length found) f → Match plan b seen fs k (more found f)
  match_end fs k [] f m o = (subst (λ j. One plan b seen fs j f) (omega arith) o, tt)
  match_end fs k (d ∷ found) f m o =
      (m.0, match_end fs (suc k) found f m.1 (subst (λ j. One plan b seen fs j f) (omega arith) o))

  -- and of one seat that was gone through
  pub match_at : (fs gs : ℕ → A.Found) (k j : ℕ) (f : Found) → gs j ≡ fs k → j ≡ k → One plan b seen fs k f →
      One plan b seen gs j f
  match_at fs gs k j f e same o = subst (λ i. gs i ≡ fs k →
      One plan b seen gs i f) (sym same) (λ m. one_still fs gs k f m o) e
