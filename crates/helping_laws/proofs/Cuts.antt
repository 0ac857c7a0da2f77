-- Lists that go down a history, and how they are cut: which place stands before which.
use Rattle.std.proofs.Common.{◌≡◌, ℕ, zero, suc, ◌+◌, ◌<◌, ◌≤◌, Bool, true, false, List, [], ◌∷◌, Option, Some, None, add-one, inl, inr, refl, sym, ap, ◌∙◌, subst, arith, append_assoc}
use Rattle.std.specs.Prelude.{◌++◌}
use Rattle.std.proofs.lemmas.Bool.{cases_eq, cond-true, cond-false}
use Rattle.table_model.specs.Reading.{line, up_to}
use Rattle.table_model.specs.Helped.{IsLater, IsTwoLater}
use Rattle.list_laws.proofs.Lists.{In}
use Rattle.closed_laws.proofs.Lines.{line_none}

-- what a history has from a place down to the first, and what it has below that place
abbrev pub down : (ℕ → ℕ) → ℕ → List ℕ
down f zero = f zero ∷ []
down f (suc n) = f (suc n) ∷ down f n

-- what a history has below a place
abbrev pub below : (ℕ → ℕ) → ℕ → List ℕ
below f zero = []
below f (suc n) = down f n

-- two lists that are one have one head
head_is : {x y : ℕ} {xs ys : List ℕ} → x ∷ xs ≡ y ∷ ys → x ≡ y
head_is e = cc

-- and one rest
tail_is : {x y : ℕ} {xs ys : List ℕ} → x ∷ xs ≡ y ∷ ys → xs ≡ ys
tail_is e = cc

-- where such a list is cut, a place stands, and behind it all below
pub cut_at : (f : ℕ → ℕ) (n : ℕ) (front : List ℕ) (x : ℕ) (rest : List ℕ) → down f n ≡ front ++ x ∷ rest →
    (i : ℕ) × (i ≤ n) × (x ≡ f i) × (rest ≡ below f i)
cut_at f zero [] x rest e = (0, omega arith, sym (head_is e), sym (tail_is e))
cut_at f zero (y ∷ front) x rest e = absurd (ends front (tail_is e))
  where
    ends : (front : List ℕ) → [] ≡ front ++ x ∷ rest → ⊥
    ends [] e = cc
    ends (z ∷ front) e = cc
cut_at f (suc n) [] x rest e = (suc n, omega arith, sym (head_is e), sym (tail_is e))
cut_at f (suc n) (y ∷ front) x rest e = (let r = cut_at f n front x rest (tail_is e) in
    (r.0, omega (arith, r.1), r.2, r.3))

-- so it is below a place
pub cut_below : (f : ℕ → ℕ) (n : ℕ) (front : List ℕ) (x : ℕ) (rest : List ℕ) → below f n ≡ front ++ x ∷ rest →
    (i : ℕ) × (i < n) × (x ≡ f i) × (rest ≡ below f i)
cut_below f zero [] x rest e = cc
cut_below f zero (y ∷ front) x rest e = cc
cut_below f (suc n) front x rest e = (let r = cut_at f n front x rest e in (r.0, omega (arith, r.1), r.2, r.3))

-- and it is cut at each of its places
pub cuts : (f : ℕ → ℕ) (n i : ℕ) → i ≤ n → (front : List ℕ) × (down f n ≡ front ++ f i ∷ below f i)
cuts f zero i o = (let z : i ≡ 0 = omega (arith, o) in ([], subst (λ j. down f 0 ≡ f j ∷ below f j) (sym z) refl))
cuts f (suc n) i o = elim (cases_eq i (suc n)) [
  | inl e ↦ ([], subst (λ j. down f (suc n) ≡ f j ∷ below f j) (sym e) refl)
  | inr d ↦ (let r = cuts f n i (omega (arith, o, d)) in (f (suc n) ∷ r.0, ap (λ xs. f (suc n) ∷ xs) r.1))
]

-- so it is below a place
pub cuts_below : (f : ℕ → ℕ) (n i : ℕ) → i < n → (front : List ℕ) × (below f n ≡ front ++ f i ∷ below f i)
cuts_below f zero i o = absurd (omega (arith, o))
cuts_below f (suc n) i o = cuts f n i (omega (arith, o))

-- a longer one begins with what is new
pub longer : (f : ℕ → ℕ) (n k : ℕ) → (newer : List ℕ) × (down f (k + n) ≡ newer ++ down f n)
longer f n zero = ([], ap (down f) (omega arith))
longer f n (suc k) = (let r = longer f n k in let more : suc k + n ≡ suc (k + n) = omega arith in
    (f (suc (k + n)) ∷ r.0, ap (down f) more ∙ ap (λ xs. f (suc (k + n)) ∷ xs) r.1))

-- two histories that agree up to a place
pub same_down : (f g : ℕ → ℕ) (n : ℕ) → ((i : ℕ) → i ≤ n → f i ≡ g i) → down f n ≡ down g n
same_down f g zero e = ap (λ x. x ∷ []) (e 0 (omega arith))
same_down f g (suc n) e = ap (λ x. x ∷ down f n) (e (suc n) (omega arith))
    ∙ ap (λ xs. g (suc n) ∷ xs) (same_down f g n (λ i o. e i (omega (arith, o))))

module _ (base : ℕ → Option ℕ) (f : ℕ → ℕ) (top : ℕ) (bases : (i : ℕ) → i < top → base (f (i + 1)) ≡ Some (f i)) where
  -- the base of a later row
  before : (i : ℕ) → i < top → base (f (suc i)) ≡ Some (f i)
  before i h = subst (λ n. base (f n) ≡ Some (f i)) (add-one i) (bases i h)

  -- a line that ends with the history is the history
  pub line_down : base (f 0) ≡ None → (fuel i : ℕ) → i ≤ top → i < fuel → line base fuel (Some (f i)) ≡ down f i
  line_down none zero i o h = absurd (omega (arith, h))
  line_down none (suc fuel) zero o h = ap (λ q. f 0 ∷ line base fuel q) none ∙ ap (λ xs. f 0 ∷ xs) (line_none base fuel)
  line_down none (suc fuel) (suc i) o h =
      ap (λ q. f (suc i) ∷ line base fuel q) (before i (omega (arith, o)))
      ∙ ap (λ xs. f (suc i) ∷ xs) (line_down none fuel i (omega (arith, o)) (omega (arith, h)))

  -- and so is one that goes on, up to its first row
  pub up_to_down : (test : ℕ → Bool) → ((i : ℕ) → i < top → test (f (i + 1)) ≡ false) → test (f 0) ≡ true →
      (fuel i : ℕ) → i ≤ top → i < fuel → up_to test (line base fuel (Some (f i))) ≡ down f i
  up_to_down test passes last zero i o h = absurd (omega (arith, h))
  up_to_down test passes last (suc fuel) zero o h =
      cond-true (test (f 0)) (f 0 ∷ []) (f 0 ∷ up_to test (line base fuel (base (f 0)))) last
  up_to_down test passes last (suc fuel) (suc i) o h =
      cond-false (test (f (suc i))) (f (suc i) ∷ []) (f (suc i) ∷ up_to test (line base fuel (base (f (suc i)))))
      (subst (λ n. test (f n) ≡ false) (add-one i) (passes i (omega (arith, o))))
      ∙ ap (λ q. f (suc i) ∷ up_to test (line base fuel q)) (before i (omega (arith, o)))
      ∙ ap (λ xs. f (suc i) ∷ xs) (up_to_down test passes last fuel i (omega (arith, o)) (omega (arith, h)))

-- ---- which place stands before which

-- what stands at a place stands in the list
pub down_in : (f : ℕ → ℕ) (n i : ℕ) → i ≤ n → In (f i) (down f n)
down_in f zero i o = inl (ap f (omega (arith, o)))
down_in f (suc n) i o = elim (cases_eq i (suc n)) [
  | inl e ↦ inl (ap f e)
  | inr d ↦ inr (down_in f n i (omega (arith, o, d)))
]

-- a number that is later in the list stands at a later place
pub later_down : (f : ℕ → ℕ) (n row other : ℕ) → IsLater (down f n) row other →
    (i : ℕ) × (i ≤ n) × (row ≡ f i) × (j : ℕ) × (j < i) × (other ≡ f j)
later_down f n row other l =
    let top = cut_at f n l.front row (l.middle ++ other ∷ l.back)
    (l.cut ∙ append_assoc l.front (row ∷ l.middle) (other ∷ l.back)) in
    let low = cut_below f top.0 l.middle other l.back (sym top.3) in
    (top.0, top.1, top.2, low.0, low.1, low.2)

-- and one at a later place is later
pub down_later : (f : ℕ → ℕ) (n i j : ℕ) → i ≤ n → j < i → IsLater (down f n) (f i) (f j)
down_later f n i j o l =
    let top = cuts f n i o in
    let low = cuts_below f i j l in
    record {
      front = top.0;
      middle = low.0;
      back = below f j;
      cut = top.1 ∙ ap (λ xs. top.0 ++ f i ∷ xs) low.1
          ∙ sym (append_assoc top.0 (f i ∷ low.0) (f j ∷ below f j));
    }

-- the list begins with its last place
head_down : (f : ℕ → ℕ) (n x : ℕ) (rest : List ℕ) → down f n ≡ x ∷ rest → (x ≡ f n) × (rest ≡ below f n)
head_down f zero x rest e = (sym (head_is e), sym (tail_is e))
head_down f (suc n) x rest e = (sym (head_is e), sym (tail_is e))

-- of a row that was made from a later one than one
pub two_down : (f : ℕ → ℕ) (n loaded row base : ℕ) → IsTwoLater (down f n) loaded row base →
    (i : ℕ) × (i < n) × (row ≡ f (i + 1)) × (base ≡ f i) × (j : ℕ) × (j < i) × (loaded ≡ f j)
two_down f n loaded row base l =
    let top = cut_at f n l.front row (base ∷ l.middle ++ loaded ∷ l.back)
    (l.cut ∙ append_assoc l.front (row ∷ base ∷ l.middle) (loaded ∷ l.back)) in
    go top.0 top.1 top.2 top.3
  where
    go : (i : ℕ) → i ≤ n → row ≡ f i → base ∷ l.middle ++ loaded ∷ l.back ≡ below f i →
        (i : ℕ) × (i < n) × (row ≡ f (i + 1)) × (base ≡ f i) × (j : ℕ) × (j < i) × (loaded ≡ f j)
    go zero o is e = cc
    go (suc i) o is e =
        let mid = head_down f i base (l.middle ++ loaded ∷ l.back) (sym e) in
        let low = cut_below f i l.middle loaded l.back (sym mid.1) in
        (i, omega (arith, o), is ∙ ap f (sym (add-one i)), mid.0, low.0, low.1, low.2)
