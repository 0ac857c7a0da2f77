-- Whether the unit of a seat's next call is ready, as the tables tell it: it is where its piece is.
use Rattle.std.proofs.Common.{◌≡◌, ℕ, ◌+◌, ◌-◌, ◌<◌, ◌≤◌, Bool, true, false, List, Option, Some, None, true≢false, refl, inl, inr, sym, ap, ◌∙◌, subst, arith, eqb-true, eq-eqb, le-leb, leb-true}
use Rattle.std.specs.Prelude.{◌==◌, ◌&&◌, ◌||◌, not, nat_le, slice_get, slice_index, slice_index_or}
use Rattle.std.specs.Option.{option_map_or}
use Rattle.std.specs.List.{list_all, range_with_len}
use Rattle.std.proofs.lemmas.Bool.{and_parts, and_from, cases_Bool, cases_lt}
use Rattle.plain_map.specs.declared.records.Record.{Record}
use Rattle.plain_map.specs.declared.records.Pending.{Pending}
use Rattle.plain_map.specs.declared.records.TheConstants.{MOST_SEATS}
use Rattle.plain_map.specs.History.{Placed, answered, pending, seat_of, number_of, seen_of}
use Rattle.table_model.specs.Setup.{seats_of}
use Rattle.table_model.specs.Order.{Closing, Piece, ByBucketRow, ByDirectoryRow, ByLookup, Placing, calls_in, calls_of, is_next, has_base, is_ready, pieces_of}
use Rattle.table_model.specs.Turns.{has_call_of}
use Rattle.list_laws.proofs.Lists.{In, all_at, all_from, any_at, any_from, range_in}
use Rattle.placing_laws.proofs.Alone.{Alone}
use Rattle.closed_laws.proofs.Pieces.{piece_at}
use Rattle.closed_laws.proofs.Ends.{call_there}
use Rattle.table_model.specs.Closing.{closing_with, log_of}
use Rattle.history_order.specs.Told.{Told}
use Rattle.history_order.specs.Parts.{unit_of}
use Rattle.history_order.specs.Filled.{Filled, IsUnit, IsVersion}
use Rattle.history_order.specs.Calls.{call_at, record_at, seen_in}
use Rattle.history_order.specs.Tables.{unit_in, is_unit, has_call_in, is_marked, has_come, is_next_in, is_none_or_next, are_next_in, has_base_in, is_ready_in}
use Rattle.history_order.specs.declared.tables.Unit.{Unit}
use Rattle.history_order.specs.declared.tables.Unit.TheVariants.{Lookup, Row, Version as VersionAt}
use Rattle.history_order.specs.declared.tables.Version.{Version}
use Rattle.history_order.specs.declared.tables.Found.{Found}
use Rattle.history_order.specs.declared.tables.Progress.{Progress}
use Rattle.history_order.proofs.Candidates.{IsUnits}
use Rattle.history_order.proofs.Counted.{Counted, next_comes, comes_next, is_the_next}
use Rattle.history_order.proofs.Units.{units}
use Rattle.history_order.proofs.Based as B
use Rattle.history_order.proofs.Based.{MarksOf, version_from, version_to, row_base_same}
use Rattle.list_laws.proofs.Truths.{both_ways}
use Rattle.history_order.proofs.Rising.{calls_rise, rising_one}
use Rattle.history_order.proofs.Numbered as N
use Rattle.list_laws.proofs.Options.{some_same}
use Rattle.std.proofs.Math.Bool.{or-false}

-- what is found and passes
pub some_passes : {A : Type 0} → (g : A → Bool) (o : Option A) → option_map_or g o false ≡ true →
    (y : A) × (o ≡ Some y) × (g y ≡ true)
some_passes g None h = absurd (true≢false (sym h))
some_passes g (Some y) h = (y, refl, h)

-- of two one holds
or_then : (a b : Bool) → (not a || b) ≡ true → a ≡ true → b ≡ true
or_then true b h e = h
or_then false b h e = absurd (true≢false (sym e))

-- where the first does not hold, or the second does
or_none : (a b : Bool) → a ≡ false → (not a || b) ≡ true
or_none true b e = absurd (true≢false e)
or_none false b e = refl

or_both : (a b : Bool) → b ≡ true → (not a || b) ≡ true
or_both true b e = e
or_both false b e = refl

-- what a caller had seen
seen_is : (c : Placed) (seat : ℕ) → seen_of c seat ≡ slice_index (seen_in c).counts seat
seen_is (answered r) seat = refl
seen_is (pending p) seat = refl

module _ (words : List ℕ) (logs : List (List Record)) (begun : List Pending) (t : Told words logs begun)
    (found : Found) (f : Filled words logs begun t found) where
  -- what is told of
  abbrev closing : Closing
  closing = closing_with words logs begun

  -- there are few seats
  pub seats_few : seats_of t.setup ≤ MOST_SEATS
  seats_few = omega (arith, t.setup.shape.settings.seats_in_range.1)

  -- the units of the calls
  pub unit_facts : IsUnits t.setup closing (unit_of t.setup closing)
  unit_facts = units t.setup closing t.book t.written t.ledger

  -- the calls of a piece are those that there are
  pub calls_are : (x : Piece) (c : Placed) → In x (pieces_of t.setup.shape closing) →
      In c (calls_in t.setup.shape closing x) → In c (calls_of closing)
  calls_are x c i m = call_there t.setup closing t.book t.written t.ledger x c
      (piece_at t.setup closing t.book t.written t.ledger x i) m

  -- a unit has calls of the seats of which its piece has some
  pub calls_same : (unit : Unit) (x : Piece) (seat at other : ℕ) → In x (pieces_of t.setup.shape closing) →
      IsUnit words logs begun t seat at unit x →
      has_call_in found unit seat other ≡ has_call_of other (calls_in t.setup.shape closing x)
  calls_same Lookup x seat at other i is =
      subst (λ z. (seat == other) ≡ has_call_of other (calls_in t.setup.shape closing z)) (sym is.2)
      (ap (λ s. s == other) (sym (t.numbered seat at is.0 is.1).0) ∙ sym (or-false (is.0.seat == other)))
  calls_same (Row row) x seat at other i is =
      f.callers row other (subst (λ z. In z (pieces_of t.setup.shape closing)) is i)
      ∙ ap (λ z. has_call_of other (calls_in t.setup.shape closing z)) (sym is)
  calls_same (VersionAt v) x seat at other i is =
      let version = found_version v is.1 in
      ap (λ (o : Option Version). option_map_or (λ z. slice_index_or z.callers other false) o false) version.1
      ∙ version.2.callers other is.0
      ∙ ap (λ z. has_call_of other (calls_in t.setup.shape closing z)) (sym is.2)
    where
      found_version : (d : ℕ) → d ≤ t.book.dir_top →
          (v : Version) × (slice_get found.versions.items d ≡ Some v) × IsVersion words logs begun t d v
      found_version d inside = B.found_version words logs begun t found f d inside

  -- the units of one piece are one
  same_unit : (a b : Unit) (x : Piece) (seat at other there : ℕ) → IsUnit words logs begun t seat at a x →
      IsUnit words logs begun t other there b x → is_unit a b ≡ true
  same_unit Lookup Lookup x seat at other there i j = refl
  same_unit Lookup (Row b) x seat at other there i j = (let bad : ByLookup i.0 ≡ ByBucketRow b = sym i.2 ∙ j in cc)
  same_unit Lookup (VersionAt b) x seat at other there i j =
      (let bad : ByLookup i.0 ≡ ByDirectoryRow (t.book.dir_row b) = sym i.2 ∙ j.2 in cc)
  same_unit (Row a) Lookup x seat at other there i j = (let bad : ByBucketRow a ≡ ByLookup j.0 = sym i ∙ j.2 in cc)
  same_unit (Row a) (Row b) x seat at other there i j =
      (let same : ByBucketRow a ≡ ByBucketRow b = sym i ∙ j in eq-eqb a b (one same))
    where
      one : ByBucketRow a ≡ ByBucketRow b → a ≡ b
      one e = cc
  same_unit (Row a) (VersionAt b) x seat at other there i j =
      (let bad : ByBucketRow a ≡ ByDirectoryRow (t.book.dir_row b) = sym i ∙ j.2 in cc)
  same_unit (VersionAt a) Lookup x seat at other there i j =
      (let bad : ByDirectoryRow (t.book.dir_row a) ≡ ByLookup j.0 = sym i.2 ∙ j.2 in cc)
  same_unit (VersionAt a) (Row b) x seat at other there i j =
      (let bad : ByDirectoryRow (t.book.dir_row a) ≡ ByBucketRow b = sym i.2 ∙ j in cc)
  same_unit (VersionAt a) (VersionAt b) x seat at other there i j =
      eq-eqb a b (t.written.dir_once a b i.1 j.1 (one (sym i.2 ∙ j.2)))
    where
      one : ByDirectoryRow (t.book.dir_row a) ≡ ByDirectoryRow (t.book.dir_row b) →
          t.book.dir_row a ≡ t.book.dir_row b
      one e = cc

  -- and one unit is of one piece
  unit_same : (a b : Unit) (x y : Piece) (many : ℕ → ℕ) (seat other : ℕ) →
      IsUnit words logs begun t seat (many seat) a x → IsUnit words logs begun t other (many other) b y →
      has_call_in found a seat other ≡ true → is_unit a b ≡ true → y ≡ x
  unit_same Lookup Lookup x y many seat other i j has is =
      let same : seat ≡ other = eqb-true seat other has in
      let there : slice_get (log_of logs other) (many other) ≡ Some i.0 =
      subst (λ s. slice_get (log_of logs s) (many s) ≡ Some i.0) same i.1 in
      j.2 ∙ ap ByLookup (one (sym j.1 ∙ there)) ∙ sym i.2
    where
      one : {r s : Record} → Some r ≡ Some s → r ≡ s
      one e = cc
  unit_same Lookup (Row b) x y many seat other i j has is = absurd (true≢false (sym is))
  unit_same Lookup (VersionAt b) x y many seat other i j has is = absurd (true≢false (sym is))
  unit_same (Row a) Lookup x y many seat other i j has is = absurd (true≢false (sym is))
  unit_same (Row a) (Row b) x y many seat other i j has is =
      j ∙ ap ByBucketRow (sym (eqb-true a b is)) ∙ sym i
  unit_same (Row a) (VersionAt b) x y many seat other i j has is = absurd (true≢false (sym is))
  unit_same (VersionAt a) Lookup x y many seat other i j has is = absurd (true≢false (sym is))
  unit_same (VersionAt a) (Row b) x y many seat other i j has is = absurd (true≢false (sym is))
  unit_same (VersionAt a) (VersionAt b) x y many seat other i j has is =
      j.2 ∙ ap (λ v. ByDirectoryRow (t.book.dir_row v)) (sym (eqb-true a b is)) ∙ sym i.2

  module _ (count : List ℕ) (p : Placing) (counted : Counted t.setup closing (λ s. slice_index count s) p)
      (alone : Alone t.setup closing p) (seat : ℕ) (inside : seat < seats_of t.setup) (unit : Unit) (x : Piece)
      (is : IsUnit words logs begun t seat (slice_index count seat) unit x)
      (there : unit_of t.setup closing seat (slice_index count seat + 1) ≡ Some x)
      (left : In x p.left) (known : In x (pieces_of t.setup.shape closing)) where
    -- how many calls of each seat are placed
    abbrev many : ℕ → ℕ
    many other = slice_index count other

    -- where a call has the next number, it stands at its seat's next place
    pub next_at : (c : Placed) (other : ℕ) → In c (calls_in t.setup.shape closing x) → seat_of c ≡ other →
        number_of c ≡ many other + 1 → call_at logs begun other (many other) ≡ Some c
    next_at c other i of number =
        let at : number_of c - 1 ≡ many other = omega (arith, number) in
        sym (ap (λ s. call_at logs begun s (many other)) of) ∙ sym (ap (call_at logs begun (seat_of c)) at)
        ∙ N.call_there words logs begun t c (calls_are x c known i)

    -- where the tables tell that each call of the unit may come next, it may
    next_from : are_next_in logs begun found count seat unit ≡ true → (c : Placed) →
        In c (calls_in t.setup.shape closing x) → is_next t.setup.shape p.order c ≡ true
    next_from h c i =
        let other : ℕ = seat_of c in
        let of_call = calls_are x c known i in
        let few : other < seats_of t.setup = t.ledger.seats c of_call in
        let some : has_call_of other (calls_in t.setup.shape closing x) ≡ true =
        any_from (λ (d : Placed). seat_of d == other) (calls_in t.setup.shape closing x) c i
        (eq-eqb other other refl) in
        let has : has_call_in found unit seat other ≡ true =
        calls_same unit x seat (many seat) other known is ∙ some in
        let kept = all_at (is_none_or_next logs begun found count seat unit) (range_with_len 0 MOST_SEATS) other h
        (range_in 0 MOST_SEATS other (omega arith) (omega (arith, few, seats_few))) in
        let next = or_then (has_call_in found unit seat other) (is_next_in logs begun found count unit other) kept has
        in
        let parts = and_parts (option_map_or (is_unit unit) (unit_in found other (many other)) false)
        (option_map_or (λ call. has_come count (seen_in call).counts) (call_at logs begun other (many other)) false)
        next in
        let u = some_passes (is_unit unit) (unit_in found other (many other)) parts.0 in
        let y = f.unit_some other (many other) u.0 few u.1 in
        let same : y.0 ≡ x = unit_same unit u.0 x y.0 many seat other is y.1 has u.2 in
        let d = unit_facts.back other (many other + 1) x (y.2 ∙ ap Some same) in
        let one : c ≡ d.1.0 = rising_one 0 (calls_in t.setup.shape closing x) c d.1.0
        (calls_rise t.setup closing t.book t.written t.ledger x) i d.1.1 (sym d.1.2) in
        let number : number_of c ≡ many other + 1 = ap number_of one ∙ d.1.3 in
        let come : has_come count (seen_in c).counts ≡ true =
        ap (λ (o : Option Placed). option_map_or (λ call. has_come count (seen_in call).counts) o false)
        (sym (next_at c other i refl number)) ∙ parts.1 in
        comes_next t.setup closing many p counted c (record {
          own = omega (arith, number);
          seen = λ s low.
              let le = all_at (λ z. nat_le (slice_index (seen_in c).counts z) (slice_index count z))
              (range_with_len 0 MOST_SEATS) s come
              (range_in 0 MOST_SEATS s (omega arith) (omega (arith, low, seats_few))) in
              omega (arith, leb-true (slice_index (seen_in c).counts s) (slice_index count s) le, seen_is c s);
        })

    -- and where it is ready they tell so
    next_to : is_ready t.setup.shape closing p x ≡ true → are_next_in logs begun found count seat unit ≡ true
    next_to ready = all_from (is_none_or_next logs begun found count seat unit) (range_with_len 0 MOST_SEATS)
        (λ other low. elim (cases_Bool (has_call_of other (calls_in t.setup.shape closing x))) [
          | inr none ↦ or_none (has_call_in found unit seat other) (is_next_in logs begun found count unit other)
              (calls_same unit x seat (many seat) other known is ∙ none)
          | inl some ↦ or_both (has_call_in found unit seat other) (is_next_in logs begun found count unit other)
              (of_seat other some)
        ])
      where
        told_unit : (other : ℕ) → other < seats_of t.setup →
            unit_of t.setup closing other (many other + 1) ≡ Some x → (o : Option Unit) →
            unit_in found other (many other) ≡ o → option_map_or (is_unit unit) o false ≡ true
        told_unit other few e None none = (let bad : None ≡ Some x =
            sym (f.unit_none other (many other) few none) ∙ e in cc)
        told_unit other few e (Some u) some =
            let y = f.unit_some other (many other) u few some in
            let same : y.0 ≡ x = some_same (sym y.2 ∙ e) in
            same_unit unit u x seat (many seat) other (many other) is
            (subst (IsUnit words logs begun t other (many other) u) same y.1)

        of_seat : (other : ℕ) → has_call_of other (calls_in t.setup.shape closing x) ≡ true →
            is_next_in logs begun found count unit other ≡ true
        of_seat other some =
            let c = any_at (λ (d : Placed). seat_of d == other) (calls_in t.setup.shape closing x) some in
            let of : seat_of c.0 ≡ other = eqb-true (seat_of c.0) other c.2 in
            let of_call = calls_are x c.0 known c.1 in
            let own = is_the_next t.setup closing many p x c.0 counted alone left ready c.1
            (t.ledger.numbered c.0 of_call) in
            let number : number_of c.0 ≡ many other + 1 = own ∙ ap (λ s. many s + 1) of in
            let few : other < seats_of t.setup = omega (arith, of, t.ledger.seats c.0 of_call) in
            let unit_there : unit_of t.setup closing other (many other + 1) ≡ Some x =
            sym (ap (unit_of t.setup closing other) number)
            ∙ sym (ap (λ s. unit_of t.setup closing s (number_of c.0)) of)
            ∙ unit_facts.there x c.0 known c.1 in
            let next = all_at (is_next t.setup.shape p.order) (calls_in t.setup.shape closing x) c.0
            (and_parts (has_base t.setup.shape closing p x)
            (list_all (is_next t.setup.shape p.order) (calls_in t.setup.shape closing x)) ready).1 c.1 in
            let comes = next_comes t.setup closing many p counted c.0 next in
            let come : has_come count (seen_in c.0).counts ≡ true =
            all_from (λ z. nat_le (slice_index (seen_in c.0).counts z) (slice_index count z))
            (range_with_len 0 MOST_SEATS) (λ s low. le-leb (slice_index (seen_in c.0).counts s) (slice_index count s)
            (elim (cases_lt s (seats_of t.setup)) [
              | inl less ↦ omega (arith, comes.seen s less, seen_is c.0 s)
              | inr past ↦ omega (arith, t.ledger.sees c.0 s of_call past, seen_is c.0 s)
            ])) in
            and_from (option_map_or (is_unit unit) (unit_in found other (many other)) false)
            (option_map_or (λ call. has_come count (seen_in call).counts) (call_at logs begun other (many other)) false)
            (told_unit other few unit_there (unit_in found other (many other)) refl)
            (ap (λ (o : Option Placed). option_map_or (λ call. has_come count (seen_in call).counts) o false)
            (next_at c.0 other c.1 of number) ∙ come)

    module _ (progress : Progress) (m : MarksOf words logs begun t progress p)
        (few : progress.latest ≤ t.book.dir_top + 1) where
      -- the row of a lookup is placed as it is told
      look_same : (r : Record) → record_at logs seat (many seat) ≡ Some r → x ≡ ByLookup r →
          option_map_or (λ (q : Record). is_marked progress.placed.items q.place) (record_at logs seat (many seat))
          false
          ≡ has_base t.setup.shape closing p x
      look_same r e of =
          ap (λ (o : Option Record). option_map_or (λ q. is_marked progress.placed.items q.place) o false) e
          ∙ m.rows r.place ∙ ap (has_base t.setup.shape closing p) (sym of)

      -- what a unit was made from is there as it is told
      base_from : (u : Unit) → IsUnit words logs begun t seat (many seat) u x →
          has_base_in t.setup.shape words logs found progress count seat u ≡ true →
          has_base t.setup.shape closing p x ≡ true
      base_from Lookup i h = sym (look_same i.0 i.1 i.2) ∙ h
      base_from (Row row) i h = ap (has_base t.setup.shape closing p) i
          ∙ sym (row_base_same words logs begun t progress p m found row) ∙ h
      base_from (VersionAt v) i h = ap (has_base t.setup.shape closing p) i.2
          ∙ version_from words logs begun t progress p m found f few v i.0 i.1 h

      -- and told as it is there
      base_to : (u : Unit) → IsUnit words logs begun t seat (many seat) u x →
          has_base t.setup.shape closing p x ≡ true →
          has_base_in t.setup.shape words logs found progress count seat u ≡ true
      base_to Lookup i h = look_same i.0 i.1 i.2 ∙ h
      base_to (Row row) i h = row_base_same words logs begun t progress p m found row
          ∙ sym (ap (has_base t.setup.shape closing p) i) ∙ h
      base_to (VersionAt v) i h =
          (version_to words logs begun t progress p m found f few v i.0 i.1 alone
          (subst (λ z. In z p.left) i.2 left)
          (sym (ap (has_base t.setup.shape closing p) i.2) ∙ h)).1

      -- so the unit is ready as it is told
      pub ready_same : unit_in found seat (many seat) ≡ Some unit →
          is_ready_in t.setup.shape words logs begun found progress count seat
          ≡ is_ready t.setup.shape closing p x
      ready_same e =
          ap (λ (o : Option Unit). option_map_or (λ u. has_base_in t.setup.shape words logs found progress count seat u
          && are_next_in logs begun found count seat u) o false) e
          ∙ both_ways (has_base_in t.setup.shape words logs found progress count seat unit
          && are_next_in logs begun found count seat unit) (is_ready t.setup.shape closing p x)
          (λ h.
          let parts = and_parts (has_base_in t.setup.shape words logs found progress count seat unit)
          (are_next_in logs begun found count seat unit) h in
          and_from (has_base t.setup.shape closing p x)
          (list_all (is_next t.setup.shape p.order) (calls_in t.setup.shape closing x))
          (base_from unit is parts.0)
          (all_from (is_next t.setup.shape p.order) (calls_in t.setup.shape closing x) (next_from parts.1)))
          (λ h.
          let parts = and_parts (has_base t.setup.shape closing p x)
          (list_all (is_next t.setup.shape p.order) (calls_in t.setup.shape closing x)) h in
          and_from (has_base_in t.setup.shape words logs found progress count seat unit)
          (are_next_in logs begun found count seat unit) (base_to unit is parts.0) (next_to h))
