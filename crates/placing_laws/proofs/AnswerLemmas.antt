-- From an order that is after and whole to records that rise, and so the one-thread answer.
use Rattle.std.proofs.Common.{◌≡◌, ℕ, zero, suc, ◌<◌, ◌≤◌, ◌⊎◌, Bool, true, cond, List, [], ◌∷◌, ◌++◌, map, length, refl, inl, inr, sym, ap, subst, ◌∙◌, arith, append_assoc, append-nil}
use Rattle.std.specs.Prelude.{IsPermutation, count_by, slice_index_or, ◌==◌, ◌&&◌}
use Rattle.std.proofs.lemmas.Bool.{eq-eqb, eqb-true, and_from, and_parts, cases_lt, cases_Bool}
use Rattle.std.proofs.lemmas.List.Sorted.{sum_by-IsPermutation, IsPermutation-sym}
use Rattle.std.proofs.lemmas.List.Sums.{sum_by-cons, sum_by-append}
use Rattle.plain_map.specs.declared.records.Record.{Record}
use Rattle.plain_map.specs.Calls.{key_in}
use Rattle.plain_map.specs.History.{Placed, answered, seat_of, number_of, Legal, After, Whole, sessions_after}
use Rattle.list_laws.proofs.Lists.{In, Once, in_right, in_cut, in_map, map_in, in_middle}
use Rattle.placing_laws.specs.OneThread.{StandsBefore, KeysHaveSeats, AnswersAsOneThread}
use Rattle.placing_laws.proofs.OrderLemmas.{Rises, stands_legally}
use Rattle.list_laws.proofs.Places.{in_all, in_other_order}

-- ---- members

-- what stands at a place is a member
in_place : {A : Type 0} (xs : List A) (k : ℕ) (x : A) → k < length xs → slice_index_or xs k x ≡ x → In x xs
in_place [] k x h e = absurd (omega (arith, h))
in_place (y ∷ xs) zero x h e = inl (sym e)
in_place (y ∷ xs) (suc k) x h e = inr (in_place xs k x (omega (arith, h)) e)

-- ---- how often a call stands

abbrev bit : Bool → ℕ
bit b = cond b 1 0

-- the call of this seat with this number
abbrev is_call : (seat number : ℕ) → Placed → Bool
is_call seat number placed = (seat_of placed == seat) && (number_of placed == number)

abbrev times : (seat number : ℕ) → List Placed → ℕ
times seat number order = count_by (is_call seat number) order

-- the test passes at a call of this seat and number
is_it : (seat number : ℕ) (placed : Placed) → seat_of placed ≡ seat → number_of placed ≡ number →
    is_call seat number placed ≡ true
is_it seat number placed s n = and_from _ _ (eq-eqb _ _ s) (eq-eqb _ _ n)

-- where it stands, it stands once at least
stands_once : (seat number : ℕ) (order : List Placed) (placed : Placed) → In placed order → seat_of placed ≡ seat →
    number_of placed ≡ number → 1 ≤ times seat number order
stands_once seat number [] placed i s n = elim i [ ]
stands_once seat number (x ∷ order) placed (inl e) s n =
    let here : bit (is_call seat number x) ≡ 1 =
    ap bit (is_it seat number x (ap seat_of (sym e) ∙ s) (ap number_of (sym e) ∙ n)) in
    omega (arith, here, sum_by-cons (λ (p : Placed). bit (is_call seat number p)) x order)
stands_once seat number (x ∷ order) placed (inr i) s n =
    omega (
      arith,
      stands_once seat number order placed i s n,
      sum_by-cons (λ (p : Placed). bit (is_call seat number p)) x order,
    )

-- where it does not stand, it stands at no time
stands_never : (seat number : ℕ) (order : List Placed) →
    ((placed : Placed) → In placed order → seat_of placed ≡ seat → number_of placed ≡ number → ⊥) →
    times seat number order ≡ 0
stands_never seat number [] h = refl
stands_never seat number (x ∷ order) h =
    let here : bit (is_call seat number x) ≡ 0 = elim (cases_Bool (is_call seat number x)) [
      | inl is ↦ let parts = and_parts (seat_of x == seat) (number_of x == number) is in
          absurd (h x (inl refl) (eqb-true _ _ parts.0) (eqb-true _ _ parts.1))
      | inr not ↦ ap bit not
    ] in
    omega (
      arith,
      here,
      stands_never seat number order (λ p i. h p (inr i)),
      sum_by-cons (λ (p : Placed). bit (is_call seat number p)) x order,
    )

-- ---- the records as they stand

module _ (records : List Record) (k : KeysHaveSeats records) where
  -- each record stands once
  once_from : (done rest : List Record) → records ≡ done ++ rest → Once rest
  once_from done [] e = tt
  once_from done (r ∷ rest) e = (
    (λ i. let cut = in_cut r rest i in
        let twice = k.numbered r r (record {
          front = done;
          middle = cut.0;
          back = cut.1;
          is = e
              ∙ ap (λ (rs : List Record). done ++ r ∷ rs) cut.2;
        }) refl in
        absurd (omega (arith, twice))),
    once_from (done ++ r ∷ []) rest (e ∙ sym (append_assoc done (r ∷ []) rest)),
  )

  -- they rise
  rises_from : (done rest : List Record) → records ≡ done ++ rest → Rises rest
  rises_from done [] e = tt
  rises_from done (r ∷ rest) e = (
    (λ b i same. let cut = in_cut b rest i in
        let before : StandsBefore records r b = record {
          front = done;
          middle = cut.0;
          back = cut.1;
          is = e
              ∙ ap (λ (rs : List Record). done ++ r ∷ rs) cut.2;
        } in
        k.numbered r b before (k.one_seat r b before same)),
    rises_from (done ++ r ∷ []) rest (e ∙ sym (append_assoc done (r ∷ []) rest)),
  )

  -- no call stands twice
  once_each : (seat number : ℕ) (done rest : List Record) → records ≡ done ++ rest →
      times seat number (map answered rest) ≤ 1
  once_each seat number done [] e = omega arith
  once_each seat number done (r ∷ rest) e =
      let step = sum_by-cons (λ (p : Placed). bit (is_call seat number p)) (answered r) (map answered rest) in
      elim (cases_Bool (is_call seat number (answered r))) [
        | inr not ↦ let here : bit (is_call seat number (answered r)) ≡ 0 = ap bit not in
            omega (
              arith,
              step,
              here,
              once_each seat number (done ++ r ∷ []) rest
                  (e ∙ sym (append_assoc done (r ∷ []) rest)),
            )
        | inl is ↦
            let here : bit (is_call seat number (answered r)) ≡ 1 = ap bit is in
            let parts = and_parts (r.seat == seat) (r.number == number) is in
            let none = stands_never seat number (map answered rest) (λ p i s n.
            let there = in_map answered rest p i in
            let cut = in_cut there.0 rest there.1 in
            let same_seat : r.seat ≡ there.0.seat = eqb-true _ _ parts.0 ∙ sym s ∙ ap seat_of there.2 in
            let same_number : r.number ≡ there.0.number = eqb-true _ _ parts.1 ∙ sym n ∙ ap number_of there.2 in
            let below = k.numbered r there.0
            (record {
              front = done;
              middle = cut.0;
              back = cut.1;
              is = e
                  ∙ ap (λ (rs : List Record). done ++ r ∷ rs) cut.2;
            }) same_seat in
            omega (arith, below, same_number)) in
            omega (arith, step, here, none)
      ]

  -- two records of one key have one seat
  seats_same : (a b : Record) → In a records → In b records → key_in a.call ≡ key_in b.call → a.seat ≡ b.seat
  seats_same a b i j same =
      let cut = in_cut a records i in
      by_place (cut.0) (cut.1) cut.2 (in_middle b a cut.0 cut.1 (subst (In b) cut.2 j))
    where
      by_place : (front back : List Record) → records ≡ front ++ a ∷ back → (b ≡ a) ⊎ In b (front ++ back) →
          a.seat ≡ b.seat
      by_place front back e (inl is) = ap (λ (r : Record). r.seat) (sym is)
      by_place front back e (inr within) = elim (in_either front back within) [
        | inl early ↦ let c = in_cut b front early in
            sym (k.one_seat b a (record {
              front = c.0;
              middle = c.1;
              back = back;
              is = e
                  ∙ ap (λ (rs : List Record). rs ++ a ∷ back) c.2 ∙ append_assoc c.0 (b ∷ c.1) (a ∷ back);
            }) (sym same))
        | inr late ↦ let c = in_cut b back late in
            k.one_seat a b (record {
              front = front;
              middle = c.0;
              back = c.1;
              is = e
                  ∙ ap (λ (rs : List Record). front ++ a ∷ rs) c.2;
            }) same
      ]
        where
          in_either : (xs ys : List Record) → In b (xs ++ ys) → In b xs ⊎ In b ys
          in_either [] ys h = inr h
          in_either (x ∷ xs) ys (inl h) = inl (inl h)
          in_either (x ∷ xs) ys (inr h) = elim (in_either xs ys h) [ inl l ↦ inl (inr l) | inr r ↦ inr r ]

  -- ---- the order of them

  module _ (given : List Placed) (after : After given) (whole : Whole records [] given) where
    abbrev whole_is : IsPermutation (map answered records ++ []) given
    whole_is = whole

    -- it is one of records
    are_answered : (order : List Placed) → ((p : Placed) → In p order → (r : Record) × (p ≡ answered r)) →
        (rs : List Record) × (order ≡ map answered rs)
    are_answered [] h = ([], refl)
    are_answered (p ∷ order) h =
        let first = h p (inl refl) in
        let rest = are_answered order (λ q i. h q (inr i)) in
        (first.0 ∷ rest.0, λ i. first.1 i ∷ rest.1 i)

    back_in : (p : Placed) → In p given → In p (map answered records)
    back_in p i =
        subst (In p) (append-nil (map answered records))
        (in_other_order (map answered records ++ []) given p whole_is i)

    forth_in : (p : Placed) → In p (map answered records) → In p given
    forth_in p i =
        in_other_order given (map answered records ++ []) p
        (IsPermutation-sym (map answered records ++ []) given whole_is)
        (subst (In p) (sym (append-nil (map answered records))) i)

    answered_all : (rs : List Record) × (given ≡ map answered rs)
    answered_all = are_answered given (λ p i. let there = in_map answered records p (back_in p i) in (there.0, there.2))

    abbrev order : List Record
    order = answered_all.0

    abbrev given_is : given ≡ map answered order
    given_is = answered_all.1

    of_answered : (r : Record) (rs : List Record) → In (answered r) (map answered rs) → In r rs
    of_answered r rs i =
        let there = in_map answered rs (answered r) i in
        let e : answered r ≡ answered there.0 = there.2 in
        let is : there.0 ≡ r = cc in
        subst (λ (x : Record). In x rs) is there.1

    order_in : (r : Record) → In r order → In r records
    order_in r i = of_answered r records (back_in (answered r)
        (subst (In (answered r)) (sym given_is) (map_in answered order r i)))

    in_order : (r : Record) → In r records → In r order
    in_order r i = of_answered r order (subst (In (answered r)) given_is
        (forth_in (answered r) (map_in answered records r i)))

    -- no call stands twice in it
    given_once : (seat number : ℕ) → times seat number given ≤ 1
    given_once seat number =
        let same = sum_by-IsPermutation (λ (p : Placed). bit (is_call seat number p))
        (map answered records ++ []) given whole_is in
        let plain : times seat number (map answered records ++ []) ≡ times seat number (map answered records) =
        ap (times seat number) (append-nil (map answered records)) in
        omega (arith, same, plain, once_each seat number [] records refl)

    -- so no two of its parts have it
    never_twice : (seat number : ℕ) (front back : List Placed) → given ≡ front ++ back →
        1 ≤ times seat number front → 1 ≤ times seat number back → ⊥
    never_twice seat number front back e f b =
        let sum = sum_by-append (λ (p : Placed). bit (is_call seat number p)) front back in
        let same : times seat number given ≡ times seat number (front ++ back) = ap (times seat number) e in
        omega (arith, sum, same, f, b, given_once seat number)

    map_cut : (done : List Record) (r : Record) (rest : List Record) → order ≡ done ++ r ∷ rest →
        given ≡ map answered done ++ answered r ∷ map answered rest
    map_cut done r rest e = given_is ∙ ap (map answered) e ∙ map_both done (r ∷ rest)
      where
        map_both : (xs ys : List Record) → map answered (xs ++ ys) ≡ map answered xs ++ map answered ys
        map_both [] ys = refl
        map_both (x ∷ xs) ys = ap (λ (ps : List Placed). answered x ∷ ps) (map_both xs ys)

    order_once : (done rest : List Record) → order ≡ done ++ rest → Once rest
    order_once done [] e = tt
    order_once done (r ∷ rest) e = (
      (λ i. never_twice r.seat r.number (map answered done ++ answered r ∷ []) (map answered rest)
          (map_cut done r rest e ∙ sym (append_assoc (map answered done) (answered r ∷ []) (map answered rest)))
          (stands_once r.seat r.number (map answered done ++ answered r ∷ []) (answered r)
          (in_right (answered r) (map answered done) (answered r ∷ []) (inl refl)) refl refl)
          (stands_once r.seat r.number (map answered rest) (answered r) (map_in answered rest r i) refl refl)),
      order_once (done ++ r ∷ []) rest (e ∙ sym (append_assoc done (r ∷ []) rest)),
    )

    order_rises : (done rest : List Record) → order ≡ done ++ rest → Rises rest
    order_rises done [] e = tt
    order_rises done (a ∷ rest) e = (
      (λ b i same.
          let a_in : In a order = subst (In a) (sym e) (in_right a done (a ∷ rest) (inl refl)) in
          let b_in : In b order = subst (In b) (sym e) (in_right b done (a ∷ rest) (inr i)) in
          let seat : a.seat ≡ b.seat = seats_same a b (order_in a a_in) (order_in b b_in) same in
          let one : 1 ≤ b.number = in_all (λ (r : Record). 1 ≤ r.number) records b k.from_one (order_in b b_in) in
          let at = map_cut done a rest e in
          let later : 1 ≤ times a.seat b.number (map answered rest) =
          stands_once a.seat b.number (map answered rest) (answered b) (map_in answered rest b i) (sym seat) refl in
          elim (cases_lt a.number b.number) [
            | inl below ↦ below
            | inr above ↦ elim (cases_lt b.number a.number) [
              | inl under ↦
                  let stood = (after (map answered done) (map answered rest) (answered a) at).own b.number one under in
                  let there : In stood.1 (map answered done) =
                  in_place (map answered done) stood.0 stood.1 stood.2 stood.3 in
                  absurd (never_twice a.seat b.number (map answered done) (answered a ∷ map answered rest) at
                  (stands_once a.seat b.number (map answered done) stood.1 there stood.4.0 stood.4.1)
                  (omega (
                    arith,
                    later,
                    sum_by-cons (λ (p : Placed). bit (is_call a.seat b.number p)) (answered a)
                        (map answered rest),
                  )))
              | inr over ↦
                  let alike : a.number ≡ b.number = omega (arith, above, over) in
                  absurd (never_twice a.seat b.number (map answered done ++ answered a ∷ []) (map answered rest)
                  (at ∙ sym (append_assoc (map answered done) (answered a ∷ []) (map answered rest)))
                  (stands_once a.seat b.number (map answered done ++ answered a ∷ []) (answered a)
                  (in_right (answered a) (map answered done) (answered a ∷ []) (inl refl)) refl alike)
                  later)
            ]
          ]),
      order_rises (done ++ a ∷ []) rest (e ∙ sym (append_assoc done (a ∷ []) rest)),
    )

-- replies and sessions are those of one thread
pub answers_as_one_thread : AnswersAsOneThread
answers_as_one_thread rules m records given k room legal after whole =
    let is = given_is records k given after whole in
    let rest = stands_legally rules m (order records k given after whole) records
    (order_once records k given after whole [] (order records k given after whole) refl)
    (once_from records k [] records refl)
    (order_in records k given after whole) (in_order records k given after whole)
    (order_rises records k given after whole [] (order records k given after whole) refl)
    (rises_from records k [] records refl)
    room (subst (Legal rules m) is legal) in
    (rest.0, ap (sessions_after rules m) is ∙ rest.1)
