-- The seats whose updates are new in rows are those that have a call in the rows' piece.
use Rattle.std.proofs.Common.{◌≡◌, ℕ, ◌+◌, ◌<◌, true, not, List, [], ◌∷◌, Option, Some, None, refl, inl, inr, sym, ap, ◌∙◌, subst, arith, true≢false, eqb-true, eq-eqb, lt-ltb, ltb-true}
use Rattle.std.specs.Prelude.{◌==◌, nat_lt, is_some}
use Rattle.std.specs.List.{range_with_len}
use Rattle.std.proofs.lemmas.Bool.{and_parts, and_from, cases_Bool, not-true}
use Rattle.plain_map.specs.History.{Placed, seat_of, number_of}
use Rattle.table_model.specs.Setup.{Setup, seats_of}
use Rattle.table_model.specs.Order.{Closing, updates_in_rows, new_number, new_in_rows, first_rows}
use Rattle.table_model.specs.Turns.{has_call_of}
use Rattle.list_laws.proofs.Lists.{In, any_at, any_from, all_at, all_from, in_flat_map, flat_map_in, in_range, range_in}
use Rattle.closed_laws.proofs.Book.{Book, Written}
use Rattle.closed_laws.proofs.Ledger.{Ledger, IsCallOf, call_at, call_at_in, in_call_at, new_from, row_new, version_new}
use Rattle.history_order.specs.Columns.{is_caller, is_free}
use Rattle.list_laws.proofs.Truths.{both_ways}

module _ (setup : Setup) (closing : Closing) (k : Book) (w : Written setup closing.words k)
    (l : Ledger setup closing k) where
  -- a number that is new in these rows is of a call that there is
  abbrev pub HaveCalls : List ℕ → Type 0
  HaveCalls rows = (seat m : ℕ) → seat < seats_of setup →
      new_in_rows setup.shape closing.words rows seat ≡ Some m → (c : Placed) × IsCallOf closing seat m c

  -- so it is in a bucket row that was exchanged
  pub row_calls : (b i : ℕ) → k.named b ≡ true → i < k.top b → HaveCalls (k.row_at b (i + 1) ∷ [])
  row_calls b i n less seat m inside e =
      let f = new_from setup closing.words (k.row_at b (i + 1) ∷ []) seat m e in
      elim f.1 [
        | inr none ↦ elim none [ ]
        | inl is ↦
            let new = row_new setup closing k w b i seat m n less
            (subst (λ r. new_number setup.shape closing.words seat r ≡ Some m) is f.2) in
            let a = l.applied b (i + 1) seat n (omega (arith, less)) inside (omega (arith, new.above, new.is)) in (
              a.0,
              record { there = a.1.there; seat = a.1.seat; number = a.1.number ∙ new.is },
            )
      ]

  -- and in the new leaves of a version
  pub version_calls : (v : ℕ) → v < k.dir_top → HaveCalls (first_rows setup.shape closing.words (k.dir_row (v + 1)))
  version_calls v less seat m inside e =
      let f = new_from setup closing.words (first_rows setup.shape closing.words (k.dir_row (v + 1))) seat m e in
      let new = version_new setup closing k w v f.0 seat m less f.1 f.2 in
      let a = l.applied new.bucket 0 seat new.named (omega arith) inside (omega (arith, new.above, new.is)) in (
        a.0,
        record { there = a.1.there; seat = a.1.seat; number = a.1.number ∙ new.is },
      )

  -- the calls of rows
  abbrev pub calls_at : List ℕ → List Placed
  calls_at rows = updates_in_rows setup.shape closing rows

  -- one of them has a number that is new
  pub call_new : (rows : List ℕ) (c : Placed) → In c (calls_at rows) →
      (new_in_rows setup.shape closing.words rows (seat_of c) ≡ Some (number_of c)) × IsCallOf closing (seat_of c)
      (number_of c) c
  call_new rows c i =
      let r = in_flat_map (call_at setup closing k w l rows) (range_with_len 0 (seats_of setup)) c i in
      let a = call_at_in setup closing k w l rows r.0 c r.2 in (
        subst (λ q. new_in_rows setup.shape closing.words rows q ≡ Some (number_of c)) (sym a.2.seat)
            (a.1 ∙ ap Some (sym a.2.number)),
        record { there = a.2.there; seat = refl; number = refl },
      )

  -- and the call of one that is new is one of them
  pub new_call : (rows : List ℕ) (seat m : ℕ) (c : Placed) → seat < seats_of setup →
      new_in_rows setup.shape closing.words rows seat ≡ Some m → IsCallOf closing seat m c → In c (calls_at rows)
  new_call rows seat m c inside e is =
      flat_map_in (call_at setup closing k w l rows) (range_with_len 0 (seats_of setup)) seat c
      (range_in 0 (seats_of setup) seat (omega arith) (omega (arith, inside)))
      (in_call_at setup closing k w l rows seat m c e is)

  -- what there is, is something
  some_is : (o : Option ℕ) → is_some o ≡ true → (m : ℕ) × (o ≡ Some m)
  some_is None h = absurd (true≢false (sym h))
  some_is (Some m) h = (m, refl)

  -- and something there is
  is_some_of : (o : Option ℕ) (m : ℕ) → o ≡ Some m → is_some o ≡ true
  is_some_of o m e = ap is_some e

  -- so the callers are those that have a call
  pub callers_are : (rows : List ℕ) → HaveCalls rows → (seat : ℕ) →
      is_caller setup.shape closing.words rows seat ≡ has_call_of seat (calls_at rows)
  callers_are rows have seat =
      both_ways (is_caller setup.shape closing.words rows seat) (has_call_of seat (calls_at rows))
      (λ h. let parts = and_parts (nat_lt seat (seats_of setup))
      (is_some (new_in_rows setup.shape closing.words rows seat)) h in
      let inside = ltb-true seat (seats_of setup) parts.0 in
      let m = some_is (new_in_rows setup.shape closing.words rows seat) parts.1 in
      let c = have seat m.0 inside m.1 in
      any_from (λ (p : Placed). seat_of p == seat) (calls_at rows) c.0 (new_call rows seat m.0 c.0 inside m.1 c.1)
      (eq-eqb (seat_of c.0) seat c.1.seat))
      (λ h. let c = any_at (λ (p : Placed). seat_of p == seat) (calls_at rows) h in
      let new = call_new rows c.0 c.1 in
      let is : seat_of c.0 ≡ seat = eqb-true (seat_of c.0) seat c.2 in
      and_from (nat_lt seat (seats_of setup)) (is_some (new_in_rows setup.shape closing.words rows seat))
      (lt-ltb seat (seats_of setup) (subst (λ q. q < seats_of setup) is (l.seats c.0 new.1.there)))
      (is_some_of (new_in_rows setup.shape closing.words rows seat) (number_of c.0)
      (subst (λ q. new_in_rows setup.shape closing.words rows q ≡ Some (number_of c.0)) is new.0)))

  -- nothing has no first member
  no_member : (cs : List Placed) → ((c : Placed) → In c cs → ⊥) → cs ≡ []
  no_member [] h = refl
  no_member (c ∷ cs) h = absurd (h c (inl refl))

  -- rows without callers have no call
  pub free_none : (rows : List ℕ) → is_free setup.shape closing.words rows ≡ true → calls_at rows ≡ []
  free_none rows h = no_member (calls_at rows) (λ c i.
      let new = call_new rows c i in
      let inside = l.seats c new.1.there in
      true≢false (sym (is_some_of (new_in_rows setup.shape closing.words rows (seat_of c)) (number_of c) new.0)
      ∙ not-true (is_some (new_in_rows setup.shape closing.words rows (seat_of c)))
      (all_at (λ seat. not (is_some (new_in_rows setup.shape closing.words rows seat)))
      (range_with_len 0 (seats_of setup)) (seat_of c) h
      (range_in 0 (seats_of setup) (seat_of c) (omega arith) (omega (arith, inside))))))

  -- and rows without calls have no caller
  pub none_free : (rows : List ℕ) → HaveCalls rows → calls_at rows ≡ [] → is_free setup.shape closing.words rows ≡ true
  none_free rows have e = all_from (λ seat. not (is_some (new_in_rows setup.shape closing.words rows seat)))
      (range_with_len 0 (seats_of setup))
      (λ seat i. let r = in_range 0 (seats_of setup) seat i in
      elim (cases_Bool (is_some (new_in_rows setup.shape closing.words rows seat))) [
        | inr none ↦ ap not none
        | inl some ↦
            let m = some_is (new_in_rows setup.shape closing.words rows seat) some in
            let c = have seat m.0 (omega (arith, r.1)) m.1 in
            elim (subst (In c.0) e (new_call rows seat m.0 c.0 (omega (arith, r.1)) m.1 c.1)) [ ]
      ])
