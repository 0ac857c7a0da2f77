-- The calls of one seat stand in an order by their numbers, where each stands after the earlier ones of its seat.
use Rattle.std.proofs.Common.{◌≡◌, ℕ, ◌+◌, ◌<◌, ◌≤◌, inl, inr, Bool, true, false, cond, List, [], ◌∷◌, ◌++◌, map, refl, sym, ap, ◌∙◌, subst, arith, eq-eqb}
use Rattle.std.specs.Prelude.{◌==◌, IsPermutation, filter}
use Rattle.std.proofs.lemmas.Bool.{cases_Bool, eqb-true, and_parts, and_from}
use Rattle.std.proofs.lemmas.List.Sorted.{sum_by-IsPermutation}
use Rattle.list_laws.proofs.Lists.{In, Once, in_filter, filter_in}
use Rattle.list_laws.proofs.Places.{in_at}
use Rattle.list_laws.proofs.Totals.{many, many-count, total-append}
use Rattle.plain_map.specs.declared.records.Pending.{Pending}
use Rattle.plain_map.specs.History.{Placed, pending, seat_of, number_of, After}
use Rattle.table_model.specs.Order.{is_call}

-- ---- in turn

-- these are numbered one after the other
abbrev pub NumberedFrom : (k : ℕ) → List Placed → Type 0
NumberedFrom k [] = Unit {0}
NumberedFrom k (c ∷ cs) = (number_of c ≡ k + 1) × NumberedFrom (k + 1) cs

-- each of them has a larger number
numbered_above : (k : ℕ) (cs : List Placed) (c : Placed) → NumberedFrom k cs → In c cs → k < number_of c
numbered_above k [] c n i = elim i [ ]
numbered_above k (d ∷ cs) c n (inl e) = (let same = ap number_of e in let first = n.0 in omega (arith, same, first))
numbered_above k (d ∷ cs) c n (inr i) = (let rest = numbered_above (k + 1) cs c n.1 i in omega (arith, rest))

-- each stands after those of smaller numbers
abbrev pub Follows : ℕ → List Placed → Type 0
Follows k ys = (before later : List Placed) (c : Placed) (n : ℕ) → ys ≡ before ++ c ∷ later → k < n →
    n < number_of c → (d : Placed) × In d before × (number_of d ≡ n)

-- so the first of others can only be the first
first_is : (k : ℕ) (x : Placed) (xs : List Placed) (y : Placed) (ys : List Placed) → NumberedFrom k (x ∷ xs) →
    In y (x ∷ xs) → Follows k (y ∷ ys) → y ≡ x
first_is k x xs y ys n (inl e) follows = e
first_is k x xs y ys n (inr i) follows =
    let high = numbered_above (k + 1) xs y n.1 i in
    let before = follows [] ys y (k + 1) refl (omega arith) high in
    elim (before.1) [ ]

-- so the same calls stand in the same turn
pub same_turn : (k : ℕ) (xs ys : List Placed) → NumberedFrom k xs → ((c : Placed) → In c ys → In c xs) →
    ((c : Placed) → In c xs → In c ys) → Once ys → Follows k ys → ys ≡ xs
same_turn k [] [] n there back once follows = refl
same_turn k [] (y ∷ ys) n there back once follows = elim (there y (inl refl)) [ ]
same_turn k (x ∷ xs) [] n there back once follows = elim (back x (inl refl)) [ ]
same_turn k (x ∷ xs) (y ∷ ys) n there back once follows =
    let is : y ≡ x = first_is k x xs y ys n (there y (inl refl)) follows in
    let rest : ys ≡ xs = same_turn (k + 1) xs ys n.1
    (λ c i. elim (there c (inr i)) [
      | inl e ↦ absurd (once.0 (subst (λ z. In z ys) (e ∙ sym is) i))
      | inr j ↦ j
    ])
    (λ c i. elim (back c (inr i)) [
      | inl e ↦ absurd (let high = numbered_above (k + 1) xs c n.1 i in let first = n.0 in
          let same : number_of c ≡ number_of x = ap number_of (e ∙ is) in omega (arith, high, first, same))
      | inr j ↦ j
    ])
    once.1
    (λ before later c m e low high.
    let z = follows (y ∷ before) later c m (ap (λ (l : List Placed). y ∷ l) e) (omega (arith, low)) high in
    elim z.1 [
      | inl s ↦ absurd (let first = n.0 in let same : number_of z.0 ≡ number_of x = ap number_of (s ∙ is) in
          let number = z.2 in omega (arith, same, number, first, low))
      | inr j ↦ (z.0, j, z.2)
    ]) in
    ap (λ (l : List Placed). y ∷ l) rest ∙ ap (λ (z : Placed). z ∷ xs) is

-- ---- the calls of one seat

-- a call of the seat
abbrev pub is_of : (q : ℕ) → Placed → Bool
is_of q c = seat_of c == q

-- a cut of those that pass a test is one of all
filter_cut : (test : Placed → Bool) (xs before later : List Placed) (c : Placed) →
    filter test xs ≡ before ++ c ∷ later →
    (front : List Placed) × (back : List Placed) × (xs ≡ front ++ c ∷ back) × (filter test front ≡ before)
filter_cut test [] [] later c e = cc
filter_cut test [] (b ∷ before) later c e = cc
filter_cut test (x ∷ xs) before later c e = go (test x) refl before e (filter_cut test xs)
  where
    go : (b : Bool) → test x ≡ b → (before : List Placed) →
        cond b (x ∷ filter test xs) (filter test xs) ≡ before ++ c ∷ later →
        ((before later : List Placed) (c : Placed) → filter test xs ≡ before ++ c ∷ later →
        (front : List Placed) × (back : List Placed) × (xs ≡ front ++ c ∷ back) × (filter test front ≡ before)) →
        (front : List Placed) × (back : List Placed) × (x ∷ xs ≡ front ++ c ∷ back) × (filter test front ≡ before)
    go true is [] e rest = (let same : x ≡ c = cc in ([], xs, ap (λ (z : Placed). z ∷ xs) same, refl))
    go true is (d ∷ before) e rest =
        let same : x ≡ d = cc in
        let then : filter test xs ≡ before ++ c ∷ later = cc in
        let r = rest before later c then in (
          x ∷ r.0,
          r.1,
          ap (λ (l : List Placed). x ∷ l) r.2,
          ap (λ (b : Bool). cond b (x ∷ filter test r.0) (filter test r.0)) is
              ∙ ap (λ (l : List Placed). x ∷ l) r.3 ∙ ap (λ (z : Placed). z ∷ before) same,
        )
    go false is before e rest =
        let r = rest before later c e in (
          x ∷ r.0,
          r.1,
          ap (λ (l : List Placed). x ∷ l) r.2,
          ap (λ (b : Bool). cond b (x ∷ filter test r.0) (filter test r.0)) is ∙ r.3,
        )

-- in an order they stand by their numbers
pub of_seat_follow : (q : ℕ) (order : List Placed) → After order → Follows 0 (filter (is_of q) order)
of_seat_follow q order after before later c n e low high =
    let cut = filter_cut (is_of q) order before later c e in
    let its : seat_of c ≡ q = eqb-true (seat_of c) q
    (in_filter (is_of q) order c (subst (In c) (sym e) (middle before))).1 in
    let own = (after cut.0 cut.1 c cut.2).own n low high in
    let there : In own.1 cut.0 = subst (λ z. In z cut.0) own.3 (in_at cut.0 own.0 own.1 own.2) in (
      own.1,
      subst (In own.1) cut.3 (filter_in (is_of q) cut.0 own.1 there
          (eq-eqb (seat_of own.1) q (own.4.0 ∙ its))),
      own.4.1,
    )
  where
    middle : (front : List Placed) → In c (front ++ c ∷ later)
    middle [] = inl refl
    middle (d ∷ front) = inr (middle front)

-- ---- once

-- a test that at most one member passes
none_many : (test : Placed → Bool) (xs : List Placed) → ((c : Placed) → In c xs → test c ≡ false) → many test xs ≡ 0
none_many test [] fails = refl
none_many test (x ∷ xs) fails =
    let first = ap (λ (b : Bool). flag b) (fails x (inl refl)) in
    let rest = none_many test xs (λ c i. fails c (inr i)) in
    omega (arith, first, rest)
  where
    flag : Bool → ℕ
    flag b = cond b 1 0

-- where at most one passes it, one is counted at most
once_many : (test : Placed → Bool) (xs : List Placed) → Once xs →
    ((c d : Placed) → In c xs → In d xs → test c ≡ true → test d ≡ true → c ≡ d) → many test xs ≤ 1
once_many test [] once same = omega arith
once_many test (x ∷ xs) once same = go (test x) refl (once_many test xs once.1 (λ c d i j. same c d (inr i) (inr j)))
  where
    go : (b : Bool) → test x ≡ b → many test xs ≤ 1 → cond b 1 0 + many test xs ≤ 1
    go true is rest =
        let none = none_many test xs (λ c i. elim (cases_Bool (test c)) [
          | inl passes ↦ absurd (once.0 (subst (λ z. In z xs) (same c x (inr i) (inl refl) passes is) i))
          | inr misses ↦ misses
        ]) in
        omega (arith, none)
    go false is rest = omega (arith, rest)

-- one that is among some is counted
in_many : (test : Placed → Bool) (xs : List Placed) (c : Placed) → In c xs → test c ≡ true → 1 ≤ many test xs
in_many test [] c i passes = elim i [ ]
in_many test (x ∷ xs) c (inl e) passes =
    let here : cond (test x) 1 0 ≡ 1 = ap flag (ap test (sym e) ∙ passes) in omega (arith, here)
  where
    flag : Bool → ℕ
    flag b = cond b 1 0
in_many test (x ∷ xs) c (inr i) passes = (let rest = in_many test xs c i passes in omega (arith, rest))

-- a call has its own seat and number
self_call : (c : Placed) → is_call (seat_of c) (number_of c) c ≡ true
self_call c = and_from (seat_of c == seat_of c) (number_of c == number_of c)
    (eq-eqb (seat_of c) (seat_of c) refl) (eq-eqb (number_of c) (number_of c) refl)

-- so where each seat and number is counted once, each call stands once
once_by_count : (xs : List Placed) → ((q n : ℕ) → many (is_call q n) xs ≤ 1) → Once xs
once_by_count [] few = tt
once_by_count (x ∷ xs) few = (
  (λ i. (let more = in_many (is_call (seat_of x) (number_of x)) xs x i (self_call x) in
      let most = few (seat_of x) (number_of x) in
      let here : cond (is_call (seat_of x) (number_of x) x) 1 0 ≡ 1 = ap flag (self_call x) in
      omega (arith, more, most, here))),
  once_by_count xs (λ q n. (let most = few q n in omega (arith, most))),
)
  where
    flag : Bool → ℕ
    flag b = cond b 1 0

-- fewer of them are fewer
filter_many : (test : Placed → Bool) (kept : Pending → Bool) (us : List Pending) →
    many test (map pending (filter kept us)) ≤ many test (map pending us)
filter_many test kept [] = omega arith
filter_many test kept (u ∷ us) = go (kept u) (filter_many test kept us)
  where
    go : (b : Bool) → many test (map pending (filter kept us)) ≤ many test (map pending us) →
        many test (map pending (cond b (u ∷ filter kept us) (filter kept us)))
        ≤ cond (test (pending u)) 1 0 + many test (map pending us)
    go true rest = omega (arith, rest)
    go false rest = omega (arith, rest)

-- an order of some of these calls has each once
pub order_once : (rs : List Placed) (kept : Pending → Bool) (us : List Pending) (order : List Placed) →
    Once (rs ++ map pending us) →
    ((c d : Placed) → In c (rs ++ map pending us) → In d (rs ++ map pending us) → seat_of c ≡ seat_of d →
    number_of c ≡ number_of d → c ≡ d) →
    IsPermutation (rs ++ map pending (filter kept us)) order → Once order
order_once rs kept us order once same moved = once_by_count order few
  where
    few : (q n : ℕ) → many (is_call q n) order ≤ 1
    few q n =
        let test : Placed → Bool = is_call q n in
        let all = once_many test (rs ++ map pending us) once
        (λ c d i j a b.
        let p = and_parts (seat_of c == q) (number_of c == n) a in
        let r = and_parts (seat_of d == q) (number_of d == n) b in
        same c d i j (eqb-true (seat_of c) q p.0 ∙ sym (eqb-true (seat_of d) q r.0))
        (eqb-true (number_of c) n p.1 ∙ sym (eqb-true (number_of d) n r.1))) in
        let as_many : many test order ≡ many test (rs ++ map pending (filter kept us)) =
        many-count test order
        ∙ sum_by-IsPermutation (λ c. cond (test c) 1 0) (rs ++ map pending (filter kept us)) order moved
        ∙ sym (many-count test (rs ++ map pending (filter kept us))) in
        let two = total-append (λ c. cond (test c) 1 0) rs (map pending (filter kept us)) in
        let three = total-append (λ c. cond (test c) 1 0) rs (map pending us) in
        let less = filter_many test kept us in
        omega (arith, all, as_many, two, three, less)
