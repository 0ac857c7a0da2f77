-- After the turn of a unit with calls: the numbers count its calls, and they are told in the one order.
use Rattle.std.proofs.Common.{◌≡◌, ℕ, ◌+◌, ◌<◌, ◌≤◌, true, false, List, [], ◌∷◌, ◌++◌, length, Some, refl, inl, inr, sym, ap, ◌∙◌, arith, eqb-true, eq-eqb, ◌⊎◌}
use Rattle.std.specs.Prelude.{◌==◌, if◌then◌else◌, slice_index, option_map, option_to_list}
use Rattle.std.specs.Option.{option_map_or}
use Rattle.std.proofs.lemmas.Bool.{cases_Bool, cases_lt}
use Rattle.std.proofs.lemmas.List.{map-append, get_or_past}
use Rattle.plain_map.specs.declared.records.Record.{Record}
use Rattle.plain_map.specs.declared.records.Pending.{Pending}
use Rattle.plain_map.specs.declared.records.TheConstants.{MOST_SEATS}
use Rattle.plain_map.specs.History.{Placed, seat_of, number_of, id_of, ids_of}
use Rattle.table_model.specs.Setup.{seats_of}
use Rattle.table_model.specs.Order.{Placing, calls_in, is_ready}
use Rattle.table_model.specs.Turns.{has_call_of}
use Rattle.list_laws.proofs.Lists.{In, any_at, any_from}
use Rattle.history_order.specs.Told.{Told}
use Rattle.history_order.specs.Parts.{unit_of}
use Rattle.history_order.specs.Filled.{Filled}
use Rattle.history_order.specs.Calls.{call_at}
use Rattle.history_order.specs.Tables.{has_call_in, is_ready_in, told_with, count_with, all_told, IsPlaced}
use Rattle.history_order.specs.declared.tables.Unit.{Unit}
use Rattle.history_order.specs.declared.tables.Found.{Found}
use Rattle.history_order.specs.declared.tables.Progress.{Progress}
use Rattle.history_order.proofs.Counted.{is_the_next, more_of}
use Rattle.history_order.proofs.Standing.{Stands, stands_same, next_on}
use Rattle.history_order.proofs.Rising.{calls_rise, told_in_order}
use Rattle.history_order.proofs.Nexts.{unit_facts, calls_are, calls_same, seats_few, next_at}
use Rattle.history_order.proofs.Going.{Going, aside_of, new_aside}
use Rattle.history_order.proofs.Freed.{turn_of}
use Rattle.history_order.proofs.Called.{Chosen, then_unit, turns_closing, placed_of, st, next_placing, none_before, rank_is, turn, still}

module _ (words : List ℕ) (logs : List (List Record)) (begun : List Pending) (t : Told words logs begun)
    (found : Found) (f : Filled words logs begun t found) (old : Progress) (count : List ℕ) (p : Placing)
    (g : Going words logs begun t found f old count p)
    (s : Stands t.setup (turns_closing words logs begun t found f old count p g)
    (placed_of words logs begun t found f old count p g) [] p) (seat : ℕ) (unit : Unit)
    (inside : seat < seats_of t.setup) (c : Chosen words logs begun t found f old count p g s seat unit)
    (ready : is_ready t.setup.shape (turns_closing words logs begun t found f old count p g) p c.piece ≡ true)
    (before : (other : ℕ) → other < seat → is_ready_in t.setup.shape words logs begun found old count other ≡ false)
  where
    -- how many calls of each seat are placed
    abbrev many : ℕ → ℕ
    many other = slice_index count other

    -- the calls of its piece
    abbrev calls : List Placed
    calls = calls_in t.setup.shape (turns_closing words logs begun t found f old count p g) c.piece

    -- the call of a seat that has one in it has the next number, and stands at its place
    call_of : (other : ℕ) → has_call_of other calls ≡ true →
        (d : Placed) × In d calls × (seat_of d ≡ other) × (number_of d ≡ many other + 1)
        × (call_at logs begun other (many other) ≡ Some d)
    call_of other some =
        let d = any_at (λ (e : Placed). seat_of e == other) calls some in
        let of : seat_of d.0 ≡ other = eqb-true (seat_of d.0) other d.2 in
        let own = is_the_next t.setup (turns_closing words logs begun t found f old count p g) many p c.piece d.0
        s.counted
        (st words logs begun t found f old count p g).alone c.left ready d.1
        (t.ledger.numbered d.0 (calls_are words logs begun t found f c.piece d.0 c.known d.1)) in
        let number : number_of d.0 ≡ many other + 1 = own ∙ ap (λ q. many q + 1) of in (
          d.0,
          d.1,
          of,
          number,
          next_at words logs begun t found f count p s.counted (st words logs begun t found f old count p g).alone seat
              inside unit c.piece c.is c.there c.left c.known d.0 other d.1 of number,
        )

    -- it is told so
    has_same : (other : ℕ) → has_call_in found unit seat other ≡ has_call_of other calls
    has_same other = calls_same words logs begun t found f unit c.piece seat (many seat) other c.known c.is

    -- no call is of a seat that there is not
    no_seat : (other : ℕ) → MOST_SEATS ≤ other → has_call_of other calls ≡ false
    no_seat other past = elim (cases_Bool (has_call_of other calls)) [
      | inr fails ↦ fails
      | inl some ↦
          let d = call_of other some in
          absurd (omega (
            arith,
            t.ledger.seats d.0 (calls_are words logs begun t found f c.piece d.0 c.known d.1),
            d.2,
            past,
            seats_few words logs begun t found f,
          ))
    ]

    -- the numbers count the calls
    pub numbers : (now : List ℕ) → length now ≡ MOST_SEATS → ((other : ℕ) → other < MOST_SEATS →
        slice_index now other ≡ count_with logs begun found seat unit other (slice_index count other)) → (other : ℕ) →
        more_of t.setup (turns_closing words logs begun t found f old count p g) many c.piece other
        ≡ slice_index now other
    numbers now long told other = elim (cases_lt other MOST_SEATS) [
      | inr past ↦
          ap (λ b. if b then many other + 1 else many other) (no_seat other past)
          ∙ get_or_past count other 0 (omega (arith, g.seats, past))
          ∙ sym (get_or_past now other 0 (omega (arith, long, past)))
      | inl less ↦ of_seat less (cases_Bool (has_call_of other calls))
    ]
      where
        of_seat : other < MOST_SEATS → ((has_call_of other calls ≡ true) ⊎ (has_call_of other calls ≡ false)) →
            more_of t.setup (turns_closing words logs begun t found f old count p g) many c.piece other
            ≡ slice_index now other
        of_seat less (inr none) =
            ap (λ b. if b then many other + 1 else many other) none
            ∙ sym (told other less ∙ ap (λ b. if b then option_map_or number_of (call_at logs begun other (many other))
            (many other) else many other) (has_same other ∙ none))
        of_seat less (inl some) =
            let d = call_of other some in
            ap (λ b. if b then many other + 1 else many other) some
            ∙ sym d.3
            ∙ sym (told other less ∙ ap (λ b. if b then option_map_or number_of (call_at logs begun other (many other))
            (many other) else many other) (has_same other ∙ some)
            ∙ ap (λ o. option_map_or number_of o (many other)) d.4)

    -- what is told is the calls, in their order
    pub told_calls : all_told logs begun found count seat unit 0 MOST_SEATS ≡ ids_of calls
    told_calls = told_in_order (λ other. told_with logs begun found seat unit other (many other)) id_of 0 MOST_SEATS
        calls
        (calls_rise t.setup (turns_closing words logs begun t found f old count p g) t.book t.written t.ledger c.piece)
        (λ d i. omega (
          arith,
          t.ledger.seats d (calls_are words logs begun t found f c.piece d c.known i),
          seats_few words logs begun t found f,
        ))
        has
        (λ other low none. ap (λ b. if b then option_to_list (option_map id_of (call_at logs begun other (many other)))
        else []) (has_same other ∙ none))
      where
        has : (d : Placed) → In d calls →
            told_with logs begun found seat unit (seat_of d) (many (seat_of d)) ≡ id_of d ∷ []
        has d i =
            let of_call = calls_are words logs begun t found f c.piece d c.known i in
            let number = is_the_next t.setup (turns_closing words logs begun t found f old count p g) many p c.piece d
            s.counted (st words logs begun t found f old count p g).alone c.left ready i (t.ledger.numbered d of_call)
            in
            let there = next_at words logs begun t found f count p s.counted
            (st words logs begun t found f old count p g).alone seat inside unit c.piece c.is c.there c.left c.known d
            (seat_of d) i refl number in
            let some : has_call_of (seat_of d) calls ≡ true =
            any_from (λ (e : Placed). seat_of e == seat_of d) calls d i (eq-eqb (seat_of d) (seat_of d) refl) in
            ap (λ b. if b then option_to_list (option_map id_of (call_at logs begun (seat_of d) (many (seat_of d))))
            else []) (has_same (seat_of d) ∙ some)
            ∙ ap (λ o. option_to_list (option_map id_of o)) there

    -- so the loop goes on
    pub going_call : (new : Progress) (now : List ℕ) → IsPlaced logs found seat (slice_index count seat) unit old new →
        length now ≡ MOST_SEATS → ((other : ℕ) → other < MOST_SEATS →
        slice_index now other ≡ count_with logs begun found seat unit other (slice_index count other)) →
        Going words logs begun t found f new now
        (next_placing words logs begun t found f old count p g s seat unit inside c ready before)
    going_call new now w long told =
        let h = then_unit words logs begun t found f old count p g s seat unit inside c ready before new unit c.is w in
        let q = next_placing words logs begun t found f old count p g s seat unit inside c ready before in
        let at = (turn_of words logs begun t found f p c.piece c.left).0 in
        let cl = turns_closing words logs begun t found f old count p g in
        record {
          stands = stands_same t.setup cl (more_of t.setup cl many c.piece) (λ other. slice_index now other)
              (aside_of words logs begun t found f new) q (numbers now long told)
              (next_on t.setup cl t.book t.written t.ledger (unit_of t.setup cl) (unit_facts words logs begun t found f)
              many p (aside_of words logs begun t found f new) seat at c.piece s inside
              (none_before words logs begun t found f old count p g s seat unit inside c ready before)
              (turn words logs begun t found f old count p g s seat unit inside c ready before)
              (rank_is words logs begun t found f old count p g s seat unit inside c ready before)
              (record {
                kept = λ y other i. elim i [ ];
                new = new_aside words logs begun t found f new p c.piece at h.marks h.few
                    (still words logs begun t found f old count p g s seat unit inside c ready before) h.bring;
              }));
          marks = h.marks;
          one = h.one;
          few = h.few;
          sound = h.sound;
          placed = h.placed;
          looks = h.looks;
          seats = long;
        }

    -- and the calls are told
    pub going_tells : ids_of (next_placing words logs begun t found f old count p g s seat unit inside c ready
        before).order
        ≡ ids_of p.order ++ all_told logs begun found count seat unit 0 MOST_SEATS
    going_tells = map-append id_of p.order calls ∙ ap (λ xs. ids_of p.order ++ xs) (sym told_calls)
