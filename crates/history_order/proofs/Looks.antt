-- The lookups of a row that are not placed yet: a row is done where it is placed and has none of them. With its turn
-- one of them is placed, and no other turn changes how many there are.
use Rattle.std.proofs.Common.{◌≡◌, ◌≢◌, ℕ, suc, Bool, true, false, not, ◌++◌, Some, true≢false, refl, inl, inr, sym, ap, ◌∙◌, subst, eqb-true, eq-eqb}
use Rattle.std.specs.Prelude.{◌==◌, ◌&&◌, filter, map, Option}
use Rattle.std.specs.List.{list_all}
use Rattle.std.proofs.lemmas.Bool.{and_parts, and_from, cases_Bool}
use Rattle.plain_map.specs.declared.records.Record.{Record}
use Rattle.plain_map.specs.History.{Placed, answered, pending, seat_of, number_of}
use Rattle.table_model.specs.Setup.{Setup}
use Rattle.plain_map.specs.Calls.{is_update}
use Rattle.table_model.specs.Reading.{is_among}
use Rattle.table_model.specs.Order.{Closing, Piece, ByLookup, Placing, is_call, calls_in, is_placed, is_done, lookups_of, pieces_of}
use Rattle.list_laws.proofs.Lists.{In, Once, all_at, all_from, any_at, any_from, in_both, in_right, in_filter, filter_in}
use Rattle.placing_laws.proofs.Turns.{after, turn_grows}
use Rattle.placing_laws.proofs.Stuck.{is_call_at, call_is_at}
use Rattle.closed_laws.proofs.Book.{Book, Written}
use Rattle.closed_laws.proofs.Ledger.{Ledger}
use Rattle.closed_laws.proofs.Pieces.{look_piece, once_filter, once_left, once_of_map}
use Rattle.history_order.specs.Parts.{is_open, open_looks}
use Rattle.history_order.proofs.Counts.{count_none, none_at, count_same, count_more}
use Rattle.history_order.proofs.Candidates.{IsUnits}

module _ (setup : Setup) (closing : Closing) where
  -- the opposite of what does not hold
  not_false : (b : Bool) → not b ≡ false → b ≡ true
  not_false true e = refl
  not_false false e = absurd (true≢false e)

  -- where both parts hold they hold together
  both_false : (a b : Bool) → a && b ≡ false → a ≡ true → b ≡ false
  both_false true b h e = h
  both_false false b h e = absurd (true≢false (sym e))

  -- what is not wholly true is false
  never_both : (a b : Bool) → (a ≡ true → b ≡ false) → a && b ≡ false
  never_both true b h = h refl
  never_both false b h = refl

  -- a row is done where it is placed and no lookup of it is open
  pub done_from : (p : Placing) (row : ℕ) → is_among p.rows row ≡ true → open_looks setup closing p row ≡ 0 →
      is_done closing p (Some row) ≡ true
  done_from p row placed none =
      let looks = filter (λ (r : Record). r.place == row) (lookups_of closing) in
      and_from (is_among p.rows row) (list_all (λ (r : Record). is_placed p.order r.seat r.number) looks) placed
      (all_from (λ (r : Record). is_placed p.order r.seat r.number) looks (λ r m.
      let of = in_filter (λ (q : Record). q.place == row) (lookups_of closing) r m in
      not_false (is_placed p.order r.seat r.number)
      (both_false (r.place == row) (not (is_placed p.order r.seat r.number))
      (none_at (is_open setup closing p row) (lookups_of closing) r none of.0) of.1)))

  -- and only there
  pub done_to : (p : Placing) (row : ℕ) → is_done closing p (Some row) ≡ true →
      (is_among p.rows row ≡ true) × (open_looks setup closing p row ≡ 0)
  done_to p row h =
      let looks = filter (λ (r : Record). r.place == row) (lookups_of closing) in
      let parts = and_parts (is_among p.rows row)
      (list_all (λ (r : Record). is_placed p.order r.seat r.number) looks) h in (
        parts.0,
        count_none (is_open setup closing p row) (lookups_of closing) (λ r m.
            never_both (r.place == row) (not (is_placed p.order r.seat r.number)) (λ e.
            ap not (all_at (λ (q : Record). is_placed p.order q.seat q.number) looks r parts.1
            (filter_in (λ (q : Record). q.place == row) (lookups_of closing) r m e)))),
      )

module _ (setup : Setup) (closing : Closing) (k : Book) (w : Written setup closing.words k)
    (l : Ledger setup closing k) (unit_of : ℕ → ℕ → Option Piece) (u : IsUnits setup closing unit_of) where
  -- a piece with the call of a lookup is the lookup's
  look_alone : (x : Piece) (c : Placed) (r : Record) → In x (pieces_of setup.shape closing) →
      In c (calls_in setup.shape closing x) → In r (lookups_of closing) → seat_of c ≡ r.seat →
      number_of c ≡ r.number → x ≡ ByLookup r
  look_alone x c r i m look seat number =
      let there : unit_of r.seat r.number ≡ Some (ByLookup r) =
      u.there (ByLookup r) (answered r) (look_piece setup closing k w l r look) (inl refl) in
      let here : unit_of r.seat r.number ≡ Some x =
      subst (λ n. unit_of r.seat n ≡ Some x) number
      (subst (λ q. unit_of q (number_of c) ≡ Some x) seat (u.there x c i m)) in
      (let same : Some x ≡ Some (ByLookup r) = sym here ∙ there in cc)

  -- so another piece's turn does not place it
  look_stays : (p : Placing) (at : ℕ) (x : Piece) (r : Record) → In x (pieces_of setup.shape closing) →
      In r (lookups_of closing) → x ≢ ByLookup r →
      is_placed (after setup closing p at x).order r.seat r.number ≡ is_placed p.order r.seat r.number
  look_stays p at x r i look other = elim (cases_Bool (is_placed p.order r.seat r.number)) [
    | inl was ↦ (turn_grows setup closing p at x).calls r.seat r.number was ∙ sym was
    | inr not_yet ↦ elim (cases_Bool (is_placed (after setup closing p at x).order r.seat r.number)) [
      | inr still ↦ still ∙ sym not_yet
      | inl now ↦
          let calls = calls_in setup.shape closing x in
          let c = any_at (is_call r.seat r.number) (p.order ++ calls) now in
          elim (in_both c.0 p.order calls c.1) [
            | inl there ↦ absurd (true≢false (sym
                (any_from (is_call r.seat r.number) p.order c.0 there c.2) ∙ not_yet))
            | inr new ↦
                let is = call_is_at c.0 r.seat r.number c.2 in
                absurd (other (look_alone x c.0 r i new look is.0 is.1))
          ]
    ]
  ]

  -- and open lookups stay open
  pub looks_stay : (p : Placing) (at : ℕ) (x : Piece) (row : ℕ) → In x (pieces_of setup.shape closing) →
      ((r : Record) → In r (lookups_of closing) → r.place ≡ row → x ≢ ByLookup r) →
      open_looks setup closing (after setup closing p at x) row ≡ open_looks setup closing p row
  looks_stay p at x row i other =
      count_same (is_open setup closing (after setup closing p at x) row) (is_open setup closing p row)
      (lookups_of closing) (λ r m. elim (cases_Bool (r.place == row)) [
        | inl e ↦ ap (λ b. (r.place == row) && not b)
            (look_stays p at x r i m (other r m (eqb-true r.place row e)))
        | inr e ↦ ap (λ b. b && not (is_placed (after setup closing p at x).order r.seat r.number)) e
            ∙ sym (ap (λ b. b && not (is_placed p.order r.seat r.number)) e)
      ])

  -- each lookup is listed once
  looks_once : Once (lookups_of closing)
  looks_once = once_filter (λ (r : Record). not (is_update r.call)) closing.records
      (once_of_map answered closing.records
      (once_left (map answered closing.records) (map pending closing.begun) l.once).0)

  -- with its turn a lookup is no longer open, so its row has one fewer
  pub look_closes : (p : Placing) (at : ℕ) (r : Record) → In r (lookups_of closing) →
      is_placed p.order r.seat r.number ≡ false →
      open_looks setup closing p r.place ≡ suc
      (open_looks setup closing (after setup closing p at (ByLookup r)) r.place)
  look_closes p at r m not_yet =
      let q = after setup closing p at (ByLookup r) in
      let now : is_placed q.order r.seat r.number ≡ true =
      any_from (is_call r.seat r.number) (p.order ++ calls_in setup.shape closing (ByLookup r)) (answered r)
      (in_right (answered r) p.order (calls_in setup.shape closing (ByLookup r)) (inl refl))
      (is_call_at (answered r) r.seat r.number refl refl) in
      count_more (is_open setup closing p r.place) (is_open setup closing q r.place) (lookups_of closing) r looks_once m
      (and_from (r.place == r.place) (not (is_placed p.order r.seat r.number)) (eq-eqb r.place r.place refl)
      (ap not not_yet))
      (never_both setup closing (r.place == r.place) (not (is_placed q.order r.seat r.number)) (λ e. ap not now))
      (λ y i apart. ap (λ b. (y.place == r.place) && not b)
      (sym (look_stays p at (ByLookup r) y (look_piece setup closing k w l r m) i (λ e. apart (one e)))))
    where
      one : {x y : Record} → ByLookup x ≡ ByLookup y → y ≡ x
      one e = cc
