-- The loop over turns, whatever is told: it keeps that its tables tell a placing that is reached.
use Rattle.std.proofs.Common.{◌≡◌, ℕ, ◌+◌, ◌^◌, ◌<◌, ◌≤◌, true, false, List, [], ◌∷◌, ◌++◌, length, Option, Some, None, true≢false, refl, inl, sym, ap, ◌∙◌, subst, arith, append-nil, append_assoc}
use Rattle.std.specs.Prelude.{◌&&◌, not, slice_index, find}
use Rattle.std.specs.List.{range_with_len}
use Rattle.std.specs.Option.{option_map_or}
use Rattle.std.proofs.lemmas.Bool.{and_parts}
use Rattle.plain_map.specs.declared.records.Record.{Record}
use Rattle.plain_map.specs.declared.records.Pending.{Pending}
use Rattle.plain_map.specs.declared.records.CallId.{CallId}
use Rattle.plain_map.specs.declared.records.TheConstants.{MOST_SEATS}
use Rattle.plain_map.specs.History.{ids_of}
use Rattle.word_rows.specs.Shape.{Shape}
use Rattle.table_model.specs.Setup.{seats_of}
use Rattle.table_model.specs.Order.{Placing, is_ready, start_of, order_of}
use Rattle.list_laws.proofs.Lists.{In, in_right}
use Rattle.table_model.specs.Closing.{closing_with}
use Rattle.history_order.specs.Told.{Told}
use Rattle.history_order.specs.Filled.{Filled}
use Rattle.history_order.specs.Begins.{Begins}
use Rattle.history_order.specs.Tables.{unit_in, has_base_in, are_next_in, has_marked_base, is_marked, is_due, is_version_due, is_free, is_ready_in, firsts_of, count_with, all_told, left_of, RowIsPlaced, VersionIsPlaced, CanBePlaced, IsPlaced}
use Rattle.history_order.specs.declared.tables.Unit.{Unit}
use Rattle.history_order.specs.declared.tables.Unit.TheVariants.{Row, Version as VersionAt}
use Rattle.history_order.specs.declared.tables.Found.{Found}
use Rattle.history_order.specs.declared.tables.Progress.{Progress}
use Rattle.history_order.proofs.Standing.{Stands}
use Rattle.history_order.proofs.Moved.{row_inside}
use Rattle.std.proofs.lemmas.Bool.{not-true}
use Rattle.history_order.proofs.Going.{Going, going_start, going_drop}
use Rattle.history_order.proofs.Freed.{going_same, going_row, going_version, version_is, version_firsts}
use Rattle.history_order.proofs.Nexts.{seats_few}
use Rattle.history_order.proofs.Called.{Chosen, chosen, can_be, less_left, first_found, nothing_aside, all_made, next_placing}
use Rattle.history_order.proofs.Spoken.{going_call, going_tells}
use Rattle.history_order.proofs.Falls.{row_falls, version_falls, row_aside_few, version_aside_few, firsts_few}

-- how it stands
pub record Runs (shape : Shape) (words : List ℕ) (logs : List (List Record)) (begun : List Pending) (found : Found)
    (progress : Progress) (count : List ℕ) (start printed : List CallId) : Type 0 where
  pub told : Told words logs begun
  pub shape_is : told.setup.shape ≡ shape
  pub filled : Filled words logs begun told found
  pub placing : Placing
  pub going : Going words logs begun told found filled progress count placing
  pub out : printed ≡ start ++ ids_of placing.order

module _ (shape : Shape) (words : List ℕ) (logs : List (List Record)) (begun : List Pending) (found : Found) where
  -- before the first turn
  pub runs_start : (progress : Progress) (count : List ℕ) (out : List CallId) →
      Begins shape words logs begun found progress → length count ≡ MOST_SEATS →
      ((seat : ℕ) → slice_index count seat ≡ 0) → Runs shape words logs begun found progress count out out
  runs_start progress count out b long zeros = record {
    told = b.told;
    shape_is = b.shape_is;
    filled = b.filled;
    placing = start_of b.told.setup.shape (closing_with words logs begun);
    going = going_start words logs begun b.told found b.filled progress count b.begins long zeros;
    out = sym (append-nil out);
  }

  module _ (old : Progress) (count : List ℕ) (start out : List CallId)
      (r : Runs shape words logs begun found old count start out) where
    -- a row that is popped has a place
    pub popped_inside : (now : Progress) (row : ℕ) → now.placed.items ≡ old.placed.items →
        old.aside.items ≡ now.aside.items ++ row ∷ [] → row < length now.placed.items
    popped_inside now row placed aside =
        let known = r.going.sound row (subst (In row) (sym aside) (in_right row now.aside.items (row ∷ []) (inl
        refl))) in
        omega (arith, row_inside words logs begun r.told found r.filled row known.0, r.going.placed, ap length placed)

    -- one that is not due need not be kept
    pub runs_drop : (now : Progress) (row : ℕ) → now.placed.items ≡ old.placed.items →
        now.looks.items ≡ old.looks.items → now.latest ≡ old.latest →
        old.aside.items ≡ now.aside.items ++ row ∷ [] → is_due shape words found now row ≡ false →
        Runs shape words logs begun found now count start out
    runs_drop now row placed looks latest aside due = record {
      told = r.told;
      shape_is = r.shape_is;
      filled = r.filled;
      placing = r.placing;
      going = going_drop words logs begun r.told found r.filled old now count r.placing row r.going placed looks latest
          aside (ap (λ s. is_due s words found now row) r.shape_is ∙ due);
      out = r.out;
    }

    -- one that is due has its turn
    pub runs_row : (now new : Progress) (row : ℕ) → now.placed.items ≡ old.placed.items →
        now.looks.items ≡ old.looks.items → now.latest ≡ old.latest →
        old.aside.items ≡ now.aside.items ++ row ∷ [] → is_due shape words found now row ≡ true →
        RowIsPlaced found row now new → Runs shape words logs begun found new count start out
    runs_row now new row placed looks latest aside due w =
        let go = going_row words logs begun r.told found r.filled old now new count r.placing row r.going placed looks
        latest aside (ap (λ s. is_due s words found now row) r.shape_is ∙ due) w in
        record {
          told = r.told;
          shape_is = r.shape_is;
          filled = r.filled;
          placing = go.reached;
          going = go.going;
          out = r.out ∙ ap (λ order. start ++ ids_of order) (sym go.order);
        }

    -- its tables may be named anew
    pub runs_same : (now : Progress) → now.placed.items ≡ old.placed.items → now.looks.items ≡ old.looks.items →
        now.latest ≡ old.latest → now.aside.items ≡ old.aside.items →
        Runs shape words logs begun found now count start out
    runs_same now placed looks latest aside = record {
      told = r.told;
      shape_is = r.shape_is;
      filled = r.filled;
      placing = r.placing;
      going = going_same words logs begun r.told found r.filled old now count r.placing r.going placed looks latest
          aside;
      out = r.out;
    }

    -- with a row that is due less is left
    pub row_less : (now new : Progress) (row : ℕ) → now.placed.items ≡ old.placed.items →
        old.aside.items ≡ now.aside.items ++ row ∷ [] → is_due shape words found now row ≡ true →
        RowIsPlaced found row now new →
        (left_of found new < left_of found now) × (length new.aside.items ≤ length now.aside.items + 1)
    row_less now new row placed aside due w = (
      row_falls found now new row w (popped_inside now row placed aside)
          (not-true (is_marked now.placed.items row)
          (and_parts (not (is_marked now.placed.items row)) (has_marked_base shape words found now (Row row)) due).0),
      row_aside_few found now new row w,
    )

    -- the next version is due
    version_due : is_version_due shape words found old ≡ true →
        is_version_due r.told.setup.shape words found old ≡ true
    version_due due = ap (λ s. is_version_due s words found old) r.shape_is ∙ due

    -- so it is there
    version_there : is_version_due shape words found old ≡ true → old.latest ≤ r.told.book.dir_top
    version_there due = version_is words logs begun r.told found r.filled old
        (and_parts (is_free found (VersionAt old.latest))
        (has_marked_base r.told.setup.shape words found old (VersionAt old.latest)) (version_due due)).1

    pub version_inside : is_version_due shape words found old ≡ true → old.latest < length found.versions.items
    version_inside due = omega (arith, version_there due, r.filled.many)

    pub version_rows : is_version_due shape words found old ≡ true → (row : ℕ) → In row (firsts_of found old.latest) →
        row < length old.placed.items
    version_rows due = version_firsts words logs begun r.told found r.filled old r.going.one (version_there due)
        r.going.placed

    -- with it less is left
    pub version_less : (new : Progress) → is_version_due shape words found old ≡ true →
        VersionIsPlaced found old new →
        (left_of found new < left_of found old) × (length new.aside.items ≤ length old.aside.items + 2 ^ 64)
    version_less new due w = (
      version_falls found old new w (version_inside due) (version_rows due),
      omega (arith, version_aside_few found old new w, firsts_few found old.latest),
    )

    -- and has its turn
    pub runs_version : (new : Progress) → is_version_due shape words found old ≡ true →
        VersionIsPlaced found old new → Runs shape words logs begun found new count start out
    runs_version new due w =
        let go = going_version words logs begun r.told found r.filled old new count r.placing r.going (version_due due)
        w in
        record {
          told = r.told;
          shape_is = r.shape_is;
          filled = r.filled;
          placing = go.reached;
          going = go.going;
          out = r.out ∙ ap (λ order. start ++ ids_of order) (sym go.order);
        }

    module _ (empty : old.aside.items ≡ []) (not_due : is_version_due shape words found old ≡ false) where
      -- nothing is aside
      abbrev free : Stands r.told.setup (closing_with words logs begun) (λ seat. slice_index count seat) [] r.placing
      free = nothing_aside words logs begun r.told found r.filled old count r.placing r.going empty
          (ap (λ s. is_version_due s words found old) r.shape_is ∙ not_due)

      -- where no seat has a unit that may be placed, the order is made
      pub runs_end : find (is_ready_in shape words logs begun found old count)
          (range_with_len 0 shape.settings.seats) ≡ None →
          out ≡ start ++ ids_of (order_of shape (closing_with words logs begun))
      runs_end none =
          r.out ∙ ap (λ order. start ++ ids_of order)
          (all_made words logs begun r.told found r.filled old count r.placing r.going free
          (ap (λ (s : Shape). find (is_ready_in s words logs begun found old count) (range_with_len 0 s.settings.seats))
          r.shape_is ∙ none))
          ∙ ap (λ s. start ++ ids_of (order_of s (closing_with words logs begun))) r.shape_is

      module _ (seat : ℕ) (first : find (is_ready_in shape words logs begun found old count)
          (range_with_len 0 shape.settings.seats) ≡ Some seat) where
        -- the first that may be placed
        abbrev is_first : find (is_ready_in r.told.setup.shape words logs begun found old count)
            (range_with_len 0 r.told.setup.shape.settings.seats) ≡ Some seat
        is_first = ap (λ (s : Shape). find (is_ready_in s words logs begun found old count)
            (range_with_len 0 s.settings.seats)) r.shape_is ∙ first

        -- it is ready, and none before it is
        the_first : (is_ready_in r.told.setup.shape words logs begun found old count seat ≡ true)
            × (seat < 0 + seats_of r.told.setup)
            × ((before : ℕ) → 0 ≤ before → before < seat →
            is_ready_in r.told.setup.shape words logs begun found old count before ≡ false)
        the_first = first_found (is_ready_in r.told.setup.shape words logs begun found old count) 0
            (seats_of r.told.setup) seat is_first

        -- it is a seat
        pub seat_inside : seat < seats_of r.told.setup
        seat_inside = omega (arith, the_first.1)

        pub seat_few : seat < MOST_SEATS
        seat_few = omega (arith, seat_inside, seats_few words logs begun r.told found r.filled)

        -- and it has a unit
        pub unit_there : unit_in found seat (slice_index count seat) ≡ None → ⊥
        unit_there none = true≢false (sym (the_first.0) ∙ ap (λ (o : Option Unit). option_map_or
            (λ unit. has_base_in r.told.setup.shape words logs found old count seat unit
            && are_next_in logs begun found count seat unit) o false) none)

        module _ (unit : Unit) (is : unit_in found seat (slice_index count seat) ≡ Some unit) where
          -- with its piece
          abbrev the : Chosen words logs begun r.told found r.filled old count r.placing r.going free seat unit
          the = chosen words logs begun r.told found r.filled old count r.placing r.going free seat unit seat_inside is

          ready : is_ready r.told.setup.shape (closing_with words logs begun) r.placing the.piece ≡ true
          ready = sym the.same ∙ the_first.0

          none_before : (other : ℕ) → other < seat →
              is_ready_in r.told.setup.shape words logs begun found old count other ≡ false
          none_before other less = the_first.2 other (omega arith) less

          -- it can be placed
          pub unit_can : CanBePlaced logs found seat (slice_index count seat) unit old
          unit_can = can_be words logs begun r.told found r.filled old count r.placing r.going free seat unit
              seat_inside
              the ready none_before unit the.is

          -- with it less is left
          pub call_less : (new : Progress) → IsPlaced logs found seat (slice_index count seat) unit old new →
              (left_of found new < left_of found old) × (length new.aside.items ≤ length old.aside.items + 2 ^ 64)
          call_less new w = less_left words logs begun r.told found r.filled old count r.placing r.going free seat unit
              seat_inside the ready none_before new unit the.is w

          -- and has its turn
          pub runs_call : (new : Progress) (now : List ℕ) (told : List CallId) →
              IsPlaced logs found seat (slice_index count seat) unit old new → length now ≡ MOST_SEATS →
              ((other : ℕ) → other < MOST_SEATS →
              slice_index now other ≡ count_with logs begun found seat unit other (slice_index count other)) →
              told ≡ out ++ all_told logs begun found count seat unit 0 MOST_SEATS →
              Runs shape words logs begun found new now start told
          runs_call new now told w long counted more = record {
            told = r.told;
            shape_is = r.shape_is;
            filled = r.filled;
            placing = next_placing words logs begun r.told found r.filled old count r.placing r.going free seat unit
                seat_inside the ready none_before;
            going = going_call words logs begun r.told found r.filled old count r.placing r.going free seat unit
                seat_inside the ready none_before new now w long counted;
            out = more
                ∙ ap (λ xs. xs ++ all_told logs begun found count seat unit 0 MOST_SEATS) r.out
                ∙ append_assoc start (ids_of r.placing.order) (all_told logs begun found count seat unit 0 MOST_SEATS)
                ∙ ap (λ xs. start ++ xs) (sym (going_tells words logs begun r.told found r.filled old count r.placing
                r.going free seat unit seat_inside the ready none_before));
          }
