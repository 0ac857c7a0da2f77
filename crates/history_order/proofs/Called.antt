-- The turn of the first seat's unit that may be placed; and where there is none, the one order is made.
use Rattle.std.proofs.Common.{◌≡◌, ℕ, zero, suc, ◌+◌, ◌-◌, ◌^◌, ◌<◌, ◌≤◌, Bool, true, false, List, [], ◌∷◌, length, map, Option, Some, None, true≢false, refl, inl, inr, sym, ap, ◌∙◌, subst, arith}
use Rattle.std.specs.Prelude.{◌==◌, if◌then◌else◌, slice_index, find}
use Rattle.std.specs.List.{list_all, range_with_len}
use Rattle.std.proofs.lemmas.Bool.{and_parts, and_from, cases_Bool, cases_lt}
use Rattle.std.proofs.lemmas.List.{length-set}
use Rattle.plain_map.specs.declared.records.Record.{Record}
use Rattle.plain_map.specs.declared.records.Pending.{Pending}
use Rattle.plain_map.specs.declared.full.FullKind.TheVariants.{BucketRows}
use Rattle.plain_map.specs.History.{Placed, answered, seat_of}
use Rattle.word_rows.specs.Shape.{count_of}
use Rattle.table_model.specs.Setup.{seats_of}
use Rattle.table_model.specs.Order.{Closing, Piece, ByBucketRow, ByDirectoryRow, ByLookup, Placing, calls_in, is_next, is_placed, has_base, is_ready, rank_of_calls, pieces_of, lookups_of, order_of}
use Rattle.list_laws.proofs.Lists.{In, in_right, in_both}
use Rattle.placing_laws.proofs.Turns.{Turn, after}
use Rattle.placing_laws.proofs.Stuck.{least_in, least_ready}
use Rattle.closed_laws.proofs.Pieces.{piece_at}
use Rattle.closed_laws.proofs.OneReady.{Stays, stays_step}
use Rattle.history_order.specs.Turns.{rank_in}
use Rattle.table_model.specs.Closing.{closing_with}
use Rattle.history_order.specs.Told.{Told}
use Rattle.history_order.specs.Parts.{unit_of, base_of_row}
use Rattle.history_order.specs.Filled.{Filled, IsUnit}
use Rattle.history_order.specs.Tables.{unit_in, is_marked, is_marked_done, has_marked_base, is_version_due, is_free, is_ready_in, free_next, brought, firsts_of, RowIsPlaced, LookIsPlaced, VersionIsPlaced, CanBePlaced, IsPlaced, left_of}
use Rattle.history_order.specs.declared.tables.Unit.{Unit}
use Rattle.history_order.specs.declared.tables.Unit.TheVariants.{Lookup, Row, Version as VersionAt}
use Rattle.history_order.specs.declared.tables.Found.{Found}
use Rattle.history_order.specs.declared.tables.Progress.{Progress}
use Rattle.history_order.proofs.Candidates.{NoneOf, candidate_left, ready_candidate}
use Rattle.history_order.proofs.Standing.{Stands, set_less, order_made}
use Rattle.history_order.proofs.Based.{MarksOf, version_to}
use Rattle.history_order.proofs.Looks.{look_closes}
use Rattle.history_order.proofs.Falls.{row_falls, look_falls, version_falls, row_aside_few, look_aside_few, version_aside_few, firsts_few}
use Rattle.history_order.proofs.Rising.{calls_rise, rising_rank}
use Rattle.history_order.proofs.Nexts.{unit_facts, ready_same}
use Rattle.history_order.proofs.Moved.{row_inside, calls_free, next_there, next_is, brought_is, row_marks, version_marks, look_marks, marked_long, marked_inside}
use Rattle.history_order.proofs.Going.{Going, aside_of, next_version, in_next, stays, TouchesRow}
use Rattle.history_order.proofs.Freed.{turn_of, bring_in, done_looks, version_known, version_firsts, version_bring, version_sound}
use Rattle.list_laws.proofs.Options.{some_same}

-- the first number that passes
pub first_found : (g : ℕ → Bool) (from many q : ℕ) → find g (range_with_len from many) ≡ Some q →
    (g q ≡ true) × (q < from + many) × ((before : ℕ) → from ≤ before → before < q → g before ≡ false)
first_found g from zero q h = cc
first_found g from (suc many) q h = go (g from) refl (first_found g (from + 1) many q) h
  where
    go : (b : Bool) → g from ≡ b →
        (find g (range_with_len (from + 1) many) ≡ Some q → (g q ≡ true) × (q < from + 1 + many)
        × ((before : ℕ) → from + 1 ≤ before → before < q → g before ≡ false)) →
        (if b then Some from else find g (range_with_len (from + 1) many)) ≡ Some q →
        (g q ≡ true) × (q < from + suc many) × ((before : ℕ) → from ≤ before → before < q → g before ≡ false)
    go true e rest s =
        let is : from ≡ q = some_same s in
        (ap g (sym is) ∙ e, omega (arith, is), λ before low less. absurd (omega (arith, is, low, less)))
    go false e rest s =
        let r = rest s in (
          r.0,
          omega (arith, r.1),
          λ before low less. elim (cases_lt from before) [
            | inl past ↦ r.2 before (omega (arith, past)) less
            | inr at ↦ ap g (let same : before ≡ from = omega (arith, at, low) in same) ∙ e
          ],
        )

-- or none does
pub none_found : (g : ℕ → Bool) (from many : ℕ) → find g (range_with_len from many) ≡ None → (q : ℕ) → from ≤ q →
    q < from + many → g q ≡ false
none_found g from zero h q low high = absurd (omega (arith, low, high))
none_found g from (suc many) h q low high = go (g from) refl (none_found g (from + 1) many) h
  where
    go : (b : Bool) → g from ≡ b → (find g (range_with_len (from + 1) many) ≡ None → (x : ℕ) → from + 1 ≤ x →
        x < from + 1 + many → g x ≡ false) →
        (if b then Some from else find g (range_with_len (from + 1) many)) ≡ None → g q ≡ false
    go true e rest s = cc
    go false e rest s = elim (cases_lt from q) [
      | inl past ↦ rest s q (omega (arith, past)) (omega (arith, high))
      | inr at ↦ ap g (let same : q ≡ from = omega (arith, at, low) in same) ∙ e
    ]

-- the rank of calls is of one of them
rank_some : (cs : List Placed) (c : Placed) → In c cs → (d : Placed) × In d cs × (rank_of_calls cs ≡ suc (seat_of d))
rank_some [] c i = elim i [ ]
rank_some (d ∷ cs) c i = (d, inl refl, refl)

module _ (words : List ℕ) (logs : List (List Record)) (begun : List Pending) (t : Told words logs begun)
    (found : Found) (f : Filled words logs begun t found) (old : Progress) (count : List ℕ) (p : Placing)
    (g : Going words logs begun t found f old count p) where
  -- what is told of
  abbrev pub turns_closing : Closing
  turns_closing = closing_with words logs begun

  -- how many calls of each seat are placed
  abbrev pub placed_of : ℕ → ℕ
  placed_of seat = slice_index count seat

  -- its pieces
  abbrev pub st : Stays t.setup turns_closing p
  st = stays words logs begun t found f old count p g

  -- where nothing is popped and the next version is not due, nothing is aside
  pub nothing_aside : old.aside.items ≡ [] → is_version_due t.setup.shape words found old ≡ false →
      Stands t.setup turns_closing placed_of [] p
  nothing_aside empty not_due = set_less t.setup turns_closing placed_of (aside_of words logs begun t found f old) []
      p g.stands keep
    where
      of_version : In (ByDirectoryRow (t.book.dir_row old.latest)) p.left → old.latest ≤ t.book.dir_top →
          calls_in t.setup.shape turns_closing (ByDirectoryRow (t.book.dir_row old.latest)) ≡ [] →
          has_base t.setup.shape turns_closing p (ByDirectoryRow (t.book.dir_row old.latest)) ≡ true → ⊥
      of_version i few free base =
          let known = st.kept.known (ByDirectoryRow (t.book.dir_row old.latest)) i in
          let to = version_to words logs begun t old p g.marks found f g.few old.latest g.one few st.alone i base in
          true≢false (sym (and_from (is_free found (VersionAt old.latest))
          (has_marked_base t.setup.shape words found old (VersionAt old.latest))
          (calls_free words logs begun t found f (VersionAt old.latest) (ByDirectoryRow (t.book.dir_row old.latest))
          known
          (g.one, few, refl) free) to.1) ∙ not_due)

      keep : (x : Piece) → In x p.left → calls_in t.setup.shape turns_closing x ≡ [] →
          has_base t.setup.shape turns_closing p x ≡ true → In x (aside_of words logs begun t found f old) → In x []
      keep x i free base j = elim (in_both x (map ByBucketRow old.aside.items)
          (next_version words logs begun t found f old.latest) j) [
            | inl a ↦ subst (In x) (ap (map ByBucketRow) empty) a
            | inr b ↦
                let n = in_next words logs begun t found f old.latest x b in
                absurd (of_version (subst (λ z. In z p.left) n.1 i) n.0
                (ap (calls_in t.setup.shape turns_closing) (sym n.1) ∙ free)
                (ap (has_base t.setup.shape turns_closing p) (sym n.1) ∙ base))
          ]

  module _ (s : Stands t.setup turns_closing placed_of [] p) where
    -- the unit of a seat's next call that is found, with its piece
    pub record Chosen (seat : ℕ) (unit : Unit) : Type 0 where
      pub piece : Piece
      pub is : IsUnit words logs begun t seat (placed_of seat) unit piece
      pub there : unit_of t.setup turns_closing seat (placed_of seat + 1) ≡ Some piece
      pub left : In piece p.left
      pub known : In piece (pieces_of t.setup.shape turns_closing)
      pub same : is_ready_in t.setup.shape words logs begun found old count seat
          ≡ is_ready t.setup.shape turns_closing p piece

    -- there is one
    pub chosen : (seat : ℕ) (unit : Unit) → seat < seats_of t.setup →
        unit_in found seat (placed_of seat) ≡ Some unit → Chosen seat unit
    chosen seat unit inside e =
        let y = f.unit_some seat (placed_of seat) unit inside e in
        let left = candidate_left t.setup turns_closing t.book t.written t.ledger (unit_of t.setup turns_closing)
        (unit_facts words logs begun t found f) p s.reaches placed_of s.counted seat y.0 y.2 in
        let known = st.kept.known y.0 left in
        record {
          piece = y.0;
          is = y.1;
          there = y.2;
          left = left;
          known = known;
          same = ready_same words logs begun t found f count p s.counted st.alone seat inside unit y.0 y.1 y.2 left
              known
              old g.marks g.few e;
        }

    -- a seat whose unit is told not to be ready has none
    pub none_of : (seat : ℕ) → seat < seats_of t.setup →
        is_ready_in t.setup.shape words logs begun found old count seat ≡ false →
        NoneOf t.setup turns_closing t.book t.written t.ledger (unit_of t.setup turns_closing)
        (unit_facts words logs begun t found f) p s.reaches placed_of s.counted seat
    none_of seat inside not_ready x there rank ready = go (unit_in found seat (placed_of seat)) refl
      where
        go : (o : Option Unit) → unit_in found seat (placed_of seat) ≡ o → ⊥
        go None e = (let bad : None ≡ Some x = sym (f.unit_none seat (placed_of seat) inside e) ∙ there in cc)
        go (Some unit) e =
            let c = chosen seat unit inside e in
            true≢false (
            sym (c.same ∙ ap (is_ready t.setup.shape turns_closing p) (some_same (sym c.there ∙ there)) ∙ ready)
            ∙ not_ready)

    -- where no seat has one, the order is made
    pub all_made : find (is_ready_in t.setup.shape words logs begun found old count)
        (range_with_len 0 t.setup.shape.settings.seats) ≡ None →
        p.order ≡ order_of t.setup.shape turns_closing
    all_made none = order_made t.setup turns_closing t.book t.written t.ledger (unit_of t.setup turns_closing)
        (unit_facts words logs begun t found f) placed_of p s
        (λ seat inside. none_of seat inside (none_found (is_ready_in t.setup.shape words logs begun found old count)
        0 t.setup.shape.settings.seats none seat (omega arith) (omega (arith, inside))))
        (λ x i. let y = least_in t.place p.left x i in
        (y.0, y.1, least_ready t.setup turns_closing t.place t.ranked p st.kept y.0 y.1 y.2))

    module _ (seat : ℕ) (unit : Unit) (inside : seat < seats_of t.setup) (c : Chosen seat unit)
        (ready : is_ready t.setup.shape turns_closing p c.piece ≡ true)
        (before : (other : ℕ) → other < seat → is_ready_in t.setup.shape words logs begun found old count other ≡ false)
      where
        -- its piece
        abbrev pub x : Piece
        x = c.piece

        -- what was made from is there
        pub based : has_base t.setup.shape turns_closing p x ≡ true
        based = (and_parts (has_base t.setup.shape turns_closing p x)
            (list_all (is_next t.setup.shape p.order) (calls_in t.setup.shape turns_closing x)) ready).0

        -- no seat before it has one
        pub none_before : (other : ℕ) → other < seat →
            NoneOf t.setup turns_closing t.book t.written t.ledger (unit_of t.setup turns_closing)
            (unit_facts words logs begun t found f) p s.reaches placed_of s.counted other
        none_before other less = none_of other (omega (arith, less, inside)) (before other less)

        -- so its piece begins with the seat
        pub rank_is : rank_in t.setup.shape turns_closing x ≡ seat + 1
        rank_is =
            let back = (unit_facts words logs begun t found f).back seat (placed_of seat + 1) x c.there in
            let mine = back.1 in
            let rise = calls_rise t.setup turns_closing t.book t.written t.ledger x in
            let low = rising_rank 0 (calls_in t.setup.shape turns_closing x) mine.0 rise mine.1 in
            let d = rank_some (calls_in t.setup.shape turns_closing x) mine.0 mine.1 in
            elim (cases_lt (seat_of d.0) seat) [
              | inr past ↦ omega (arith, past, low, d.2, mine.2)
              | inl less ↦ absurd (none_before (seat_of d.0) less x
                  (ready_candidate t.setup turns_closing t.book t.written t.ledger (unit_of t.setup turns_closing)
                  (unit_facts words logs begun t found f) p s.reaches placed_of s.counted x d.0 c.left ready d.1)
                  d.2 ready)
            ]

        -- where it stands
        pub turn : Turn t.setup turns_closing p (turn_of words logs begun t found f p x c.left).0 x
        turn = record { stands = (turn_of words logs begun t found f p x c.left).1; ready = ready }

        -- the placing after it
        abbrev pub next_placing : Placing
        next_placing = after t.setup turns_closing p (turn_of words logs begun t found f p x c.left).0 x

        -- its pieces
        pub still : Stays t.setup turns_closing next_placing
        still = stays_step t.setup turns_closing p (turn_of words logs begun t found f p x c.left).0 x turn st

        -- a version that may be placed is the next
        version_now : (v : ℕ) → (1 ≤ v) × (v ≤ t.book.dir_top) × (x ≡ ByDirectoryRow (t.book.dir_row v)) →
            v ≡ old.latest
        version_now v i = (version_to words logs begun t old p g.marks found f g.few v i.0 i.1 st.alone
            (subst (λ z. In z p.left) i.2 c.left)
            (ap (has_base t.setup.shape turns_closing p) (sym i.2) ∙ based)).0

        -- the row of a lookup that may be placed
        look_inside : (r : Record) → x ≡ ByLookup r → r.place < length old.looks.items
        look_inside r e =
            let marked = g.marks.rows r.place ∙ (ap (has_base t.setup.shape turns_closing p) (sym e) ∙ based) in
            omega (arith, marked_inside old.placed.items r.place marked, g.placed, g.looks)

        -- a lookup that may be placed is open
        look_open : (r : Record) → x ≡ ByLookup r → 1 ≤ slice_index old.looks.items r.place
        look_open r e = omega (
          arith,
          g.marks.left r.place,
          look_closes t.setup turns_closing t.book t.written t.ledger
              (unit_of t.setup turns_closing) (unit_facts words logs begun t found f) p 0 r known not_yet,
        )
          where
            known : In r (lookups_of turns_closing)
            known = piece_at t.setup turns_closing t.book t.written t.ledger (ByLookup r)
                (subst (λ z. In z (pieces_of t.setup.shape turns_closing)) e c.known)

            not_yet : is_placed p.order r.seat r.number ≡ false
            not_yet = elim (cases_Bool (is_placed p.order r.seat r.number)) [
              | inr fails ↦ fails
              | inl is ↦ absurd ((st.alone.fresh (ByLookup r) (subst (λ z. In z p.left) e c.left)).calls (answered r)
                  r.seat r.number (inl refl) refl refl is)
            ]

        -- a bucket row that may be placed is not
        row_new : (row : ℕ) → x ≡ ByBucketRow row → is_marked old.placed.items row ≡ false
        row_new row e = elim (cases_Bool (is_marked old.placed.items row)) [
          | inr fails ↦ fails
          | inl is ↦ absurd ((st.alone.fresh (ByBucketRow row) (subst (λ z. In z p.left) e c.left)).rows row (inl refl)
              (sym (g.marks.rows row) ∙ is))
        ]

        -- so with its turn less is left, and few rows are set aside
        pub less_left : (new : Progress) (u : Unit) → IsUnit words logs begun t seat (placed_of seat) u x →
            IsPlaced logs found seat (placed_of seat) u old new →
            (left_of found new < left_of found old) × (length new.aside.items ≤ length old.aside.items + 2 ^ 64)
        less_left new Lookup i w =
            let is = w i.0 i.1 in (
              look_falls found old new i.0.place is (look_inside i.0 i.2) (look_open i.0 i.2),
              omega (arith, look_aside_few found old new i.0.place is),
            )
        less_left new (Row row) i w = (
          row_falls found old new row w (omega (
            arith,
            row_inside words logs begun t found f row
                (subst (λ z. In z (pieces_of t.setup.shape turns_closing)) i c.known),
            g.placed,
          )) (row_new row i),
          omega (arith, row_aside_few found old new row w),
        )
        less_left new (VersionAt v) i w =
            let same = version_now v i in (
              version_falls found old new w (omega (arith, same, i.1, f.many))
                  (version_firsts words logs begun t found f old g.one (omega (arith, same, i.1)) g.placed),
              omega (arith, version_aside_few found old new w, firsts_few found old.latest),
            )

        -- so it can be placed
        pub can_be : (u : Unit) → IsUnit words logs begun t seat (placed_of seat) u x →
            CanBePlaced logs found seat (placed_of seat) u old
        can_be Lookup i = (i.0, i.1, look_inside i.0 i.2)
        can_be (Row row) i = omega (
          arith,
          row_inside words logs begun t found f row
              (subst (λ z. In z (pieces_of t.setup.shape turns_closing)) i c.known),
          g.placed,
        )
        can_be (VersionAt v) i =
            let same = version_now v i in (
              omega (arith, same, i.1, f.many),
              version_firsts words logs begun t found f old g.one (omega (arith, same, i.1)) g.placed,
            )

        module _ (new : Progress) where
          -- what the tables tell then
          pub record Then : Type 0 where
            pub marks : MarksOf words logs begun t new next_placing
            pub one : 1 ≤ new.latest
            pub few : new.latest ≤ t.book.dir_top + 1
            pub sound : (row : ℕ) → In row new.aside.items → In (ByBucketRow row) (pieces_of t.setup.shape
                turns_closing)
                × (calls_in t.setup.shape turns_closing (ByBucketRow row) ≡ [])
            pub placed : length new.placed.items ≡ count_of t.setup.shape BucketRows
            pub looks : length new.looks.items ≡ count_of t.setup.shape BucketRows
            pub bring : (row base : ℕ) → base_of_row t.setup turns_closing row ≡ Some base →
                TouchesRow words logs begun t found f x base → In (ByBucketRow row) (pieces_of t.setup.shape
                turns_closing) →
                calls_in t.setup.shape turns_closing (ByBucketRow row) ≡ [] →
                is_marked_done new.placed.items new.looks.items base ≡ true → In row new.aside.items

          -- with a bucket row
          then_row : (row : ℕ) → x ≡ ByBucketRow row → RowIsPlaced found row old new → Then
          then_row row e w = record {
            marks = subst (λ z. MarksOf words logs begun t new (after t.setup turns_closing p at z)) (sym e)
                (row_marks words logs begun t found f p at old new g.marks row w
                (omega (arith, row_inside words logs begun t found f row known, g.placed)) known);
            one = omega (arith, g.one, w.latest);
            few = omega (arith, g.few, w.latest);
            sound = λ r i. elim (in_both r old.aside.items (brought found old.looks.items row) (subst (In r) w.aside
                i)) [
                  | inl j ↦ g.sound r j
                  | inr j ↦ brought_is words logs begun t found f old.looks.items r row j
                ];
            placed = ap length w.placed ∙ length-set old.placed.items row true ∙ g.placed;
            looks = ap length w.looks ∙ g.looks;
            bring = λ r base of touch there free done.
                let is : base ≡ row = touch_is base (subst (λ z. TouchesRow words logs begun t found f z base) e
                touch) in
                subst (In r) (sym w.aside) (in_right r old.aside.items (brought found old.looks.items row)
                (subst (λ n. In r (brought found old.looks.items n)) is
                (bring_in words logs begun t found f old.looks.items base r
                (subst (λ xs. (slice_index xs base == 0) ≡ true) w.looks
                (done_looks words logs begun t found f new.placed.items new.looks.items base done))
                (next_there words logs begun t found f r base there free of))));
          }
            where
              at : ℕ
              at = (turn_of words logs begun t found f p x c.left).0

              known : In (ByBucketRow row) (pieces_of t.setup.shape turns_closing)
              known = subst (λ z. In z (pieces_of t.setup.shape turns_closing)) e c.known

              touch_is : (base : ℕ) → TouchesRow words logs begun t found f (ByBucketRow row) base → base ≡ row
              touch_is base (inl (inl i)) = i
              touch_is base (inl (inr j)) = elim j [ ]
              touch_is base (inr look) = (let bad : ByBucketRow row ≡ ByLookup look.0 = look.1 in cc)

          -- with the next version
          then_version : (v : ℕ) → (1 ≤ v) × (v ≤ t.book.dir_top) × (x ≡ ByDirectoryRow (t.book.dir_row v)) →
              VersionIsPlaced found old new → Then
          then_version v i w = record {
            marks = subst (λ z. MarksOf words logs begun t new (after t.setup turns_closing p at z)) (sym e)
                (version_marks words logs begun t found f p at old new g.marks w g.one inside_top
                (version_firsts words logs begun t found f old g.one inside_top g.placed)
                (version_known words logs begun t found f old.latest g.one inside_top));
            one = omega (arith, w.latest);
            few = omega (arith, inside_top, w.latest);
            sound = version_sound words logs begun t found f old new w g.sound;
            placed = ap length w.placed ∙ marked_long old.placed.items (firsts_of found old.latest) ∙ g.placed;
            looks = ap length w.looks ∙ g.looks;
            bring = λ r base of touch there free done.
                version_bring words logs begun t found f old new w g.one inside_top r base of
                (subst (λ z. TouchesRow words logs begun t found f z base) e touch) there free done;
          }
            where
              at : ℕ
              at = (turn_of words logs begun t found f p x c.left).0

              same : v ≡ old.latest
              same = version_now v i

              inside_top : old.latest ≤ t.book.dir_top
              inside_top = omega (arith, same, i.1)

              e : x ≡ ByDirectoryRow (t.book.dir_row old.latest)
              e = i.2 ∙ ap (λ n. ByDirectoryRow (t.book.dir_row n)) same

          -- with a lookup
          then_look : (r : Record) → x ≡ ByLookup r → LookIsPlaced found r.place old new → Then
          then_look r e w = record {
            marks = subst (λ z. MarksOf words logs begun t new (after t.setup turns_closing p at z)) (sym e)
                (look_marks words logs begun t found f p at old new g.marks r w (look_inside r e) known not_yet);
            one = omega (arith, g.one, w.latest);
            few = omega (arith, g.few, w.latest);
            sound = λ row i. elim (in_both row old.aside.items extra (subst (In row) w.aside i)) [
              | inl j ↦ g.sound row j
              | inr j ↦ if_next row (is_marked_done new.placed.items new.looks.items r.place) j
            ];
            placed = ap length w.placed ∙ g.placed;
            looks = ap length w.looks ∙ length-set old.looks.items r.place (slice_index old.looks.items r.place - 1)
                ∙ g.looks;
            bring = λ row base of touch there free done.
                let is : base ≡ r.place = touch_is base (subst (λ z. TouchesRow words logs begun t found f z base) e
                touch) in
                subst (In row) (sym w.aside) (in_right row old.aside.items extra
                (subst (λ b. In row (if b then free_next found r.place else []))
                (sym (ap (is_marked_done new.placed.items new.looks.items) (sym is) ∙ done))
                (next_there words logs begun t found f row r.place there free (of ∙ ap Some is))));
          }
            where
              at : ℕ
              at = (turn_of words logs begun t found f p x c.left).0

              extra : List ℕ
              extra = if is_marked_done new.placed.items new.looks.items r.place then free_next found r.place else []

              known : In r (lookups_of turns_closing)
              known = piece_at t.setup turns_closing t.book t.written t.ledger (ByLookup r)
                  (subst (λ z. In z (pieces_of t.setup.shape turns_closing)) e c.known)

              not_yet : is_placed p.order r.seat r.number ≡ false
              not_yet = elim (cases_Bool (is_placed p.order r.seat r.number)) [
                | inr fails ↦ fails
                | inl is ↦ absurd ((st.alone.fresh (ByLookup r) (subst (λ z. In z p.left) e c.left)).calls (answered r)
                    r.seat r.number (inl refl) refl refl is)
              ]

              if_next : (row : ℕ) (b : Bool) → In row (if b then free_next found r.place else []) →
                  In (ByBucketRow row) (pieces_of t.setup.shape turns_closing)
                  × (calls_in t.setup.shape turns_closing (ByBucketRow row) ≡ [])
              if_next row true j = next_is words logs begun t found f row r.place j
              if_next row false j = elim j [ ]

              touch_is : (base : ℕ) → TouchesRow words logs begun t found f (ByLookup r) base → base ≡ r.place
              touch_is base (inl j) = elim j [ ]
              touch_is base (inr look) = sym look.2 ∙ ap (λ (q : Record). q.place) (one (sym look.1))
                where
                  one : {a b : Record} → ByLookup a ≡ ByLookup b → a ≡ b
                  one i = cc

          -- with any unit
          pub then_unit : (u : Unit) → IsUnit words logs begun t seat (placed_of seat) u x →
              IsPlaced logs found seat (placed_of seat) u old new → Then
          then_unit Lookup i w = then_look i.0 i.2 (w i.0 i.1)
          then_unit (Row row) i w = then_row row i w
          then_unit (VersionAt v) i w = then_version v i w
