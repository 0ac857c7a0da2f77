-- What a turn changes in the tables: the marks tell the placing after it, and what it brings is set aside.
use Rattle.std.proofs.Common.{◌≡◌, ℕ, ◌+◌, ◌-◌, ◌<◌, ◌≤◌, Bool, true, false, List, [], ◌∷◌, length, map, Option, Some, None, true≢false, refl, inl, inr, sym, ap, ◌∙◌, subst, arith, eq-eqb}
use Rattle.std.specs.Prelude.{◌==◌, ◌||◌, not, if◌then◌else◌, slice_index, slice_index_or, slice_set, option_to_list}
use Rattle.std.specs.Option.{option_map_or}
use Rattle.std.specs.List.{range_with_len}
use Rattle.std.proofs.lemmas.Bool.{cases_eq, cases_lt, not-true, ne_eqb}
use Rattle.std.proofs.lemmas.List.{get_or-set_same, get_or-set_other, get_or_past, length-set}
use Rattle.std.proofs.lemmas.List.Folds.{list_any-append}
use Rattle.std.proofs.lemmas.List.FromFn.{map-range_with_len_more}
use Rattle.plain_map.specs.declared.records.Record.{Record}
use Rattle.plain_map.specs.declared.records.Pending.{Pending}
use Rattle.plain_map.specs.declared.records.TheConstants.{MOST_SEATS}
use Rattle.plain_map.specs.declared.full.FullKind.TheVariants.{BucketRows}
use Rattle.plain_map.specs.History.{Placed, seat_of}
use Rattle.word_rows.specs.Shape.{count_of}
use Rattle.table_model.specs.Reading.{is_among}
use Rattle.table_model.specs.Order.{Closing, Piece, ByBucketRow, ByDirectoryRow, ByLookup, Placing, calls_in, first_rows, is_placed, lookups_of, pieces_of}
use Rattle.table_model.specs.Turns.{has_call_of}
use Rattle.list_laws.proofs.Lists.{In, all_at, all_from, any_from, range_in}
use Rattle.placing_laws.proofs.Turns.{after}
use Rattle.closed_laws.proofs.Pieces.{piece_at, first_has}
use Rattle.table_model.specs.Closing.{closing_with}
use Rattle.history_order.specs.Told.{Told}
use Rattle.history_order.specs.Parts.{unit_of, base_of_row}
use Rattle.history_order.specs.Filled.{Filled, IsUnit}
use Rattle.history_order.specs.Tables.{is_marked, is_free, has_call_in, free_next, brought, marked, firsts_of, RowIsPlaced, LookIsPlaced, VersionIsPlaced}
use Rattle.history_order.specs.declared.tables.Unit.{Unit}
use Rattle.history_order.specs.declared.tables.Unit.TheVariants.{Row}
use Rattle.history_order.specs.declared.tables.Version.{Version}
use Rattle.history_order.specs.declared.tables.Found.{Found}
use Rattle.history_order.specs.declared.tables.Progress.{Progress}
use Rattle.history_order.proofs.Looks.{look_closes}
use Rattle.history_order.proofs.Marking.{marks_on, marks_look}
use Rattle.history_order.proofs.Based.{MarksOf, found_version, first_versions}
use Rattle.history_order.proofs.Nexts.{seats_few, unit_facts, calls_are, calls_same}
use Rattle.std.proofs.Math.Bool.{or-true}

-- nothing is added
none_or : (b : Bool) → b ≡ (b || false)
none_or true = refl
none_or false = refl

or_three : (a b c : Bool) → ((a || (b || false)) || c) ≡ (a || (b || c))
or_three true b c = refl
or_three false true c = refl
or_three false false c = refl

-- with one more mark
mark_one : (placed : List Bool) (row r : ℕ) → row < length placed →
    slice_index_or (slice_set placed row true) r false ≡ (slice_index_or placed r false || ((row == r) || false))
mark_one placed row r inside = elim (cases_eq row r) [
  | inl e ↦
      subst (λ n. slice_index_or (slice_set placed row true) n false ≡ true) e
      (get_or-set_same placed row true false inside)
      ∙ sym (or-true (slice_index_or placed r false))
      ∙ ap (λ b. slice_index_or placed r false || (b || false)) (sym (eq-eqb row r e))
  | inr n ↦
      get_or-set_other placed row r true false (λ e. n (sym e))
      ∙ none_or (slice_index_or placed r false)
      ∙ ap (λ b. slice_index_or placed r false || (b || false)) (sym (ne_eqb row r n))
]

-- with many
mark_all : (placed : List Bool) (rows : List ℕ) (r : ℕ) → ((row : ℕ) → In row rows → row < length placed) →
    slice_index_or (marked placed rows) r false ≡ (slice_index_or placed r false || is_among rows r)
mark_all placed [] r inside = none_or (slice_index_or placed r false)
mark_all placed (x ∷ xs) r inside =
    mark_all (slice_set placed x true) xs r
    (λ row i. omega (arith, inside row (inr i), length-set placed x true))
    ∙ ap (λ b. b || is_among xs r) (mark_one placed x r (inside x (inl refl)))
    ∙ or_three (slice_index_or placed r false) (x == r) (is_among xs r)

-- they are as many as they were
pub marked_long : (placed : List Bool) (rows : List ℕ) → length (marked placed rows) ≡ length placed
marked_long placed [] = refl
marked_long placed (x ∷ xs) = marked_long (slice_set placed x true) xs ∙ length-set placed x true

-- what stands in an optional list
pub option_in : (o : Option ℕ) (b : ℕ) → In b (option_to_list o) → o ≡ Some b
option_in None b i = elim i [ ]
option_in (Some c) b (inl e) = ap Some (sym e)
option_in (Some c) b (inr i) = elim i [ ]

-- a mark is in the list of marks
pub marked_inside : (placed : List Bool) (row : ℕ) → slice_index_or placed row false ≡ true → row < length placed
marked_inside placed row h = elim (cases_lt row (length placed)) [
  | inl less ↦ less
  | inr past ↦ absurd (true≢false (sym h ∙ get_or_past placed row false past))
]

module _ (words : List ℕ) (logs : List (List Record)) (begun : List Pending) (t : Told words logs begun)
    (found : Found) (f : Filled words logs begun t found) where
  -- what is told of
  abbrev told_closing : Closing
  told_closing = closing_with words logs begun

  -- the place of a bucket row of a piece
  pub row_inside : (row : ℕ) → In (ByBucketRow row) (pieces_of t.setup.shape told_closing) →
      row < count_of t.setup.shape BucketRows
  row_inside row i =
      let a = piece_at t.setup told_closing t.book t.written t.ledger (ByBucketRow row) i in
      omega (arith, t.written.within a.bucket (a.before + 1) a.named (omega (arith, a.inside)), a.is)

  -- and of the first rows of a version
  pub firsts_inside : (row first : ℕ) → In (ByDirectoryRow row) (pieces_of t.setup.shape told_closing) →
      In first (first_rows t.setup.shape words row) → first < count_of t.setup.shape BucketRows
  firsts_inside row first i j =
      let a = piece_at t.setup told_closing t.book t.written t.ledger (ByDirectoryRow row) i in
      let b = first_has t.setup told_closing t.book t.written t.ledger row a first j in
      omega (arith, t.written.within b.0 0 b.1 (omega arith), b.3)

  -- the first rows of a version, as they are found
  pub firsts_found : (v : ℕ) → 1 ≤ v → v ≤ t.book.dir_top →
      firsts_of found v ≡ first_rows t.setup.shape words (t.book.dir_row v)
  firsts_found v one inside =
      let version = found_version words logs begun t found f v inside in
      ap (λ (o : Option Version). option_map_or (λ x. x.firsts.items) o []) version.1 ∙ version.2.firsts one

  -- a unit that is told to have no calls has none
  pub free_calls : (unit : Unit) (x : Piece) → In x (pieces_of t.setup.shape told_closing) →
      IsUnit words logs begun t 0 0 unit x → is_free found unit ≡ true → calls_in t.setup.shape told_closing x ≡ []
  free_calls unit x known is h = none (calls_in t.setup.shape told_closing x)
      (λ c i. omega (
        arith,
        t.ledger.seats c (calls_are words logs begun t found f x c known i),
        seats_few words logs begun t found f,
      ))
      (λ s low. sym (calls_same words logs begun t found f unit x 0 0 s known is)
      ∙ not-true (has_call_in found unit 0 s)
      (all_at (λ z. not (has_call_in found unit 0 z)) (range_with_len 0 MOST_SEATS) s h
      (range_in 0 MOST_SEATS s (omega arith) (omega (arith, low)))))
    where
      none : (cs : List Placed) → ((c : Placed) → In c cs → seat_of c < MOST_SEATS) →
          ((s : ℕ) → s < MOST_SEATS → has_call_of s cs ≡ false) → cs ≡ []
      none [] few no_one = refl
      none (c ∷ cs) few no_one = absurd (true≢false (sym
          (any_from (λ (d : Placed). seat_of d == seat_of c) (c ∷ cs) c (inl refl)
          (eq-eqb (seat_of c) (seat_of c) refl)) ∙ no_one (seat_of c) (few c (inl refl))))

  -- and one that has none is told so
  pub calls_free : (unit : Unit) (x : Piece) → In x (pieces_of t.setup.shape told_closing) →
      IsUnit words logs begun t 0 0 unit x → calls_in t.setup.shape told_closing x ≡ [] → is_free found unit ≡ true
  calls_free unit x known is none =
      all_from (λ z. not (has_call_in found unit 0 z)) (range_with_len 0 MOST_SEATS)
      (λ s i. ap not (calls_same words logs begun t found f unit x 0 0 s known is ∙ ap (has_call_of s) none))

  -- the row without calls that was made from a row is found
  pub next_there : (row base : ℕ) → In (ByBucketRow row) (pieces_of t.setup.shape told_closing) →
      calls_in t.setup.shape told_closing (ByBucketRow row) ≡ [] → base_of_row t.setup told_closing row ≡ Some base →
      In row (free_next found base)
  next_there row base known none is =
      subst (In row) (sym (
      ap (λ o. option_map_or (λ next. if is_free found (Row next) then next ∷ [] else []) o [])
      (f.next_all row base known is)
      ∙ ap (λ b. if b then row ∷ [] else []) (calls_free (Row row) (ByBucketRow row) known refl none)))
      (inl refl)

  -- and what is found is one
  pub next_is : (row base : ℕ) → In row (free_next found base) →
      In (ByBucketRow row) (pieces_of t.setup.shape told_closing)
      × (calls_in t.setup.shape told_closing (ByBucketRow row) ≡ [])
  next_is row base i = go (slice_index_or found.next.items base None) refl i
    where
      here : (next : ℕ) → slice_index_or found.next.items base None ≡ Some next → (b : Bool) →
          is_free found (Row next) ≡ b → In row (if b then next ∷ [] else []) →
          In (ByBucketRow row) (pieces_of t.setup.shape told_closing)
          × (calls_in t.setup.shape told_closing (ByBucketRow row) ≡ [])
      here next e false h j = elim j [ ]
      here next e true h (inr j) = elim j [ ]
      here next e true h (inl same) =
          let known = (f.next_sound next base e).0 in
          subst (λ r. In (ByBucketRow r) (pieces_of t.setup.shape told_closing)
          × (calls_in t.setup.shape told_closing (ByBucketRow r) ≡ [])) (sym same)
          (known, free_calls (Row next) (ByBucketRow next) known refl h)

      go : (o : Option ℕ) → slice_index_or found.next.items base None ≡ o →
          In row (option_map_or (λ next. if is_free found (Row next) then next ∷ [] else []) o []) →
          In (ByBucketRow row) (pieces_of t.setup.shape told_closing)
          × (calls_in t.setup.shape told_closing (ByBucketRow row) ≡ [])
      go None e j = elim j [ ]
      go (Some next) e j = here next e (is_free found (Row next)) refl j

  -- what is brought is one
  pub brought_is : (looks : List ℕ) (row base : ℕ) → In row (brought found looks base) →
      In (ByBucketRow row) (pieces_of t.setup.shape told_closing)
      × (calls_in t.setup.shape told_closing (ByBucketRow row) ≡ [])
  brought_is looks row base i = if_is (slice_index looks base == 0) i
    where
      if_is : (b : Bool) → In row (if b then free_next found base else []) →
          In (ByBucketRow row) (pieces_of t.setup.shape told_closing)
          × (calls_in t.setup.shape told_closing (ByBucketRow row) ≡ [])
      if_is true j = next_is row base j
      if_is false j = elim j [ ]

  module _ (p : Placing) (at : ℕ) (old new : Progress) (m : MarksOf words logs begun t old p) where
    -- with the turn of a bucket row
    pub row_marks : (row : ℕ) → RowIsPlaced found row old new → row < length old.placed.items →
        In (ByBucketRow row) (pieces_of t.setup.shape told_closing) →
        MarksOf words logs begun t new (after t.setup told_closing p at (ByBucketRow row))
    row_marks row c inside known =
        marks_on t.setup told_closing t.book t.written t.ledger (unit_of t.setup told_closing)
        (unit_facts words logs begun t found f)
        (is_marked old.placed.items) (first_versions t.book old.latest)
        (is_marked new.placed.items) (first_versions t.book new.latest)
        (λ r. slice_index old.looks.items r) (λ r. slice_index new.looks.items r) p at (ByBucketRow row) m known
        (record {
          rows = λ r. ap (λ xs. slice_index_or xs r false) c.placed ∙ mark_one old.placed.items row r inside;
          versions = λ r. ap (λ n. first_versions t.book n r) c.latest ∙ none_or (first_versions t.book old.latest r);
        }) (λ r e. cc) (λ r. ap (λ xs. slice_index xs r) c.looks)

    -- with the turn of a version
    pub version_marks : VersionIsPlaced found old new → 1 ≤ old.latest → old.latest ≤ t.book.dir_top →
        ((row : ℕ) → In row (firsts_of found old.latest) → row < length old.placed.items) →
        In (ByDirectoryRow (t.book.dir_row old.latest)) (pieces_of t.setup.shape told_closing) →
        MarksOf words logs begun t new
        (after t.setup told_closing p at (ByDirectoryRow (t.book.dir_row old.latest)))
    version_marks c one few inside known =
        marks_on t.setup told_closing t.book t.written t.ledger (unit_of t.setup told_closing)
        (unit_facts words logs begun t found f)
        (is_marked old.placed.items) (first_versions t.book old.latest)
        (is_marked new.placed.items) (first_versions t.book new.latest)
        (λ r. slice_index old.looks.items r) (λ r. slice_index new.looks.items r) p at
        (ByDirectoryRow (t.book.dir_row old.latest)) m known
        (record {
          rows = λ r. ap (λ xs. slice_index_or xs r false) c.placed
              ∙ mark_all old.placed.items (firsts_of found old.latest) r inside
              ∙ ap (λ xs. is_marked old.placed.items r || is_among xs r) (firsts_found old.latest one few);
          versions = λ r. ap (λ n. first_versions t.book n r) c.latest
              ∙ ap (λ xs. is_among xs r) (map-range_with_len_more t.book.dir_row 0 old.latest old.latest (omega arith))
              ∙ list_any-append (λ other. other == r) (map t.book.dir_row (range_with_len 0 old.latest))
              (t.book.dir_row old.latest ∷ []);
        }) (λ r e. cc) (λ r. ap (λ xs. slice_index xs r) c.looks)

    -- with the turn of a lookup
    pub look_marks : (r : Record) → LookIsPlaced found r.place old new → r.place < length old.looks.items →
        In r (lookups_of told_closing) → is_placed p.order r.seat r.number ≡ false →
        MarksOf words logs begun t new (after t.setup told_closing p at (ByLookup r))
    look_marks r c inside known not_yet =
        let closes = look_closes t.setup told_closing t.book t.written t.ledger (unit_of t.setup told_closing)
        (unit_facts words logs begun t found f) p at r known not_yet in
        let here : slice_index new.looks.items r.place ≡ slice_index old.looks.items r.place - 1 =
        ap (λ xs. slice_index xs r.place) c.looks
        ∙ get_or-set_same old.looks.items r.place (slice_index old.looks.items r.place - 1) 0 inside in
        marks_look t.setup told_closing t.book t.written t.ledger (unit_of t.setup told_closing)
        (unit_facts words logs begun t found f)
        (is_marked old.placed.items) (first_versions t.book old.latest)
        (is_marked new.placed.items) (first_versions t.book new.latest)
        (λ x. slice_index old.looks.items x) (λ x. slice_index new.looks.items x) p at r m known not_yet
        (record {
          rows = λ x. ap (λ xs. slice_index_or xs x false) c.placed ∙ none_or (is_marked old.placed.items x);
          versions = λ x. ap (λ n. first_versions t.book n x) c.latest ∙ none_or (first_versions t.book old.latest x);
        })
        (omega (arith, here, closes, m.left r.place))
        (λ x n. ap (λ xs. slice_index xs x) c.looks
        ∙ get_or-set_other old.looks.items r.place x (slice_index old.looks.items r.place - 1) 0 n)
