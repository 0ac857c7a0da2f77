-- What the tables say is what is told.
use Rattle.std.proofs.Common.{◌≡◌, ℕ, zero, suc, ◌+◌, ◌<◌, ◌≤◌, Bool, true, false, List, [], ◌∷◌, length, get_or, Some, None, refl, inl, inr, sym, ap, ◌∙◌, subst, arith, add-one, eqb-true}
use Rattle.std.specs.Prelude.{◌==◌, ◌&&◌, slice_get, slice_index_or}
use Rattle.std.specs.Option.{option_map_or}
use Rattle.std.proofs.lemmas.Bool.{cases_Bool, cases_lt}
use Rattle.std.proofs.lemmas.List.{get_or_past}
use Rattle.plain_map.specs.declared.records.Record.{Record}
use Rattle.plain_map.specs.declared.records.Pending.{Pending}
use Rattle.plain_map.specs.declared.full.FullKind.TheVariants.{BucketRows}
use Rattle.word_rows.specs.Shape.{Shape, count_of}
use Rattle.table_model.specs.Reading.{first_row, is_among}
use Rattle.table_model.specs.Order.{Piece, ByBucketRow, ByDirectoryRow, ByLookup, calls_in, lookups_of, pieces_of, first_rows, rows_with, start_of}
use Rattle.table_model.specs.Turns.{has_call_of}
use Rattle.list_laws.proofs.Lists.{In, in_filter, filter_in, filter_map_in}
use Rattle.closed_laws.proofs.Lines.{among_is_in}
use Rattle.placing_laws.proofs.Stuck.{among_in}
use Rattle.closed_laws.proofs.Read.{first_is}
use Rattle.closed_laws.proofs.Ledger.{base_then}
use Rattle.closed_laws.proofs.Pieces.{PieceAt, RowAt, piece_at, look_piece, first_has, start_row, in_start_rows, start_dir, in_start_dirs}
use Rattle.history_order.specs.Parts.{is_open, open_looks}
use Rattle.history_order.specs.Told.{Told}
use Rattle.history_order.specs.Filled.{IsVersion, Filled, Begun}
use Rattle.history_order.specs.Filling.{firsts_in, bases_in, new_beside}
use Rattle.history_order.specs.Columns.{base_in, is_caller, is_free}
use Rattle.history_order.specs.Fills.{IsFound, IsBegun, version_rows, version_leaves, exchanged_rows}
use Rattle.history_order.specs.Tables.{HasBases}
use Rattle.history_order.specs.declared.tables.Version.{Version}
use Rattle.history_order.specs.declared.tables.Found.{Found}
use Rattle.history_order.specs.declared.tables.Progress.{Progress}
use Rattle.history_order.proofs.Loops.{length_leaves}
use Rattle.history_order.proofs.Counts.{count_same, count_none}
use Rattle.history_order.proofs.After.{after_cases}
use Rattle.list_laws.proofs.Truths.{both_ways}
use Rattle.history_order.proofs.Exchanges.{Before, new_born}
use Rattle.history_order.proofs.NewCalls.{callers_are, version_calls, free_none, none_free}
use Rattle.history_order.proofs.TableUnits.{closing, some_one, row_of_piece, piece_of_row, row_has_piece, row_have, rows_many, row_at, leaf_at, opening_first, version_few, version_firsts, some_unit, none_unit}

-- the column of callers tells of each exchanged row whose updates are new in it
pub callers_told : (shape : Shape) (words : List ℕ) (logs : List (List Record)) (found : Found) →
    IsFound shape words logs found → (exchanged : List ℕ) (callers : List (List Bool)) →
    exchanged ≡ exchanged_rows shape words logs → callers ≡ found.callers.items → (row seat : ℕ) →
    In row exchanged → row < length callers →
    get_or (get_or callers row []) seat false ≡ is_caller shape words (row ∷ []) seat
callers_told shape words logs found f exchanged callers are same row seat there inside =
    let less : row < count_of shape BucketRows = omega (arith, inside, ap length same, f.callers_rows) in
    ap (λ (cs : List (List Bool)). get_or (get_or cs row []) seat false) same ∙ f.callers row seat
    ∙ elim (after_cases (λ r. Some r) (λ r. is_caller shape words (r ∷ []) seat) row (count_of shape BucketRows)
    (exchanged_rows shape words logs) false) [
      | inl wrote ↦ wrote.is ∙ ap (λ r. is_caller shape words (r ∷ []) seat) (some_one wrote.by row wrote.here)
      | inr kept ↦ absurd (kept.none row (subst (In row) are there) refl less)
    ]

-- the column of bases says what the words say
pub bases_told : (shape : Shape) (words : List ℕ) (logs : List (List Record)) (found : Found) →
    IsFound shape words logs found → HasBases shape words found
bases_told shape words logs found f row base e =
    elim (after_cases (λ r. Some r) (base_in shape words) row (count_of shape BucketRows)
    (exchanged_rows shape words logs) None) [
      | inl wrote ↦ ap (base_in shape words) (sym (some_one wrote.by row wrote.here)) ∙ sym wrote.is ∙ sym (f.bases row)
          ∙ e
      | inr kept ↦ let none : None ≡ Some base = sym kept.is ∙ sym (f.bases row) ∙ e in cc
    ]

-- an empty one says nothing
pub none_based : (shape : Shape) (words : List ℕ) (found : Found) → found.bases.items ≡ [] →
    HasBases shape words found
none_based shape words found empty row base e =
    let none : None ≡ Some base = sym (ap (λ bases. get_or bases row None) empty) ∙ e in cc

-- the first version has the opening's rows
pub opening_told : (shape : Shape) (words : List ℕ) (logs : List (List Record)) (found : Found) →
    IsFound shape words logs found →
    option_map_or (λ (v : Version). v.firsts.items) (slice_get found.versions.items 0) []
    ≡ firsts_in shape words (get_or (version_leaves shape words logs) 0 [])
opening_told shape words logs found f = by_first found.versions.items refl
  where
    no_leaf : (ls : List (List ℕ)) → length ls ≡ 0 → get_or ls 0 [] ≡ []
    no_leaf [] e = refl
    no_leaf (l ∷ ls) e = cc

    by_first : (vs : List Version) → vs ≡ found.versions.items →
        option_map_or (λ (v : Version). v.firsts.items) (slice_get vs 0) []
        ≡ firsts_in shape words (get_or (version_leaves shape words logs) 0 [])
    by_first [] e =
        ap (firsts_in shape words) (sym (no_leaf (version_leaves shape words logs)
        (length_leaves shape words [] (version_rows shape words logs) ∙ sym f.many ∙ ap length (sym e))))
    by_first (v ∷ vs) e = (f.made 0 v (ap (λ xs. slice_get xs 0) (sym e))).firsts

module _ (words : List ℕ) (logs : List (List Record)) (begun : List Pending) (t : Told words logs begun) where
  -- the place of a row's piece
  row_at_piece : (row : ℕ) → In (ByBucketRow row) (pieces_of t.setup.shape (closing words logs begun t)) →
      RowAt t.setup (closing words logs begun t) t.book t.written t.ledger row
  row_at_piece row i = piece_at t.setup (closing words logs begun t) t.book t.written t.ledger (ByBucketRow row) i

  -- its row is one of the table
  row_within : (row : ℕ) → RowAt t.setup (closing words logs begun t) t.book t.written t.ledger row →
      row < count_of t.setup.shape BucketRows
  row_within row a = subst (λ r. r < count_of t.setup.shape BucketRows) (sym a.is)
      (t.written.within a.bucket (a.before + 1) a.named (omega (arith, a.inside)))

  -- the row that it was made from
  base_at : (row base : ℕ) → (a : RowAt t.setup (closing words logs begun t) t.book t.written t.ledger row) →
      base_in t.setup.shape words row ≡ Some base → base ≡ t.book.row_at a.bucket a.before
  base_at row base a e = some_one base (t.book.row_at a.bucket a.before)
      (sym e ∙ ap (base_in t.setup.shape words) a.is
      ∙ base_then t.setup (closing words logs begun t) t.book t.written a.bucket a.before a.named a.inside)

  -- of one row one is made
  one_made : (x y base : ℕ) → RowAt t.setup (closing words logs begun t) t.book t.written t.ledger x →
      RowAt t.setup (closing words logs begun t) t.book t.written t.ledger y →
      base_in t.setup.shape words x ≡ Some base → base_in t.setup.shape words y ≡ Some base → x ≡ y
  one_made x y base a b e f =
      let one = t.written.once a.bucket b.bucket a.before b.before a.named b.named (omega (arith, a.inside))
      (omega (arith, b.inside)) (sym (base_at x base a e) ∙ base_at y base b f) in
      a.is ∙ ap (λ n. t.book.row_at n (a.before + 1)) one.0
      ∙ ap (λ n. t.book.row_at b.bucket (n + 1)) one.1 ∙ sym b.is

  module _ (found : Found) (f : IsFound t.setup.shape words logs found) where
    -- the versions are those of the book
    version_is : (v : ℕ) (version : Version) → slice_get found.versions.items v ≡ Some version →
        IsVersion words logs begun t v version
    version_is zero version e = record {
      row = (f.made 0 version e).row_is ∙ row_at words logs begun t 0 (omega arith);
      firsts = λ one. absurd (omega (arith, one));
      bases = λ one. absurd (omega (arith, one));
      callers = λ seat one. absurd (omega (arith, one));
    }
    version_is (suc u) version e =
        let at : slice_get found.versions.items (u + 1) ≡ Some version =
        subst (λ n. slice_get found.versions.items n ≡ Some version) (sym (add-one u)) e in
        let few = version_few words logs begun t found f (u + 1) version at in
        let less : u < t.book.dir_top = omega (arith, few) in
        let firsts : version.firsts.items ≡ first_rows t.setup.shape words (t.book.dir_row (suc u)) =
        version_firsts words logs begun t found f u version at
        ∙ ap (λ n. first_rows t.setup.shape words (t.book.dir_row n)) (add-one u) in
        record {
          row = (f.made (suc u) version e).row_is ∙ row_at words logs begun t (suc u) (omega (arith, few));
          firsts = λ one. firsts;
          bases = λ one. (f.made (suc u) version e).bases ∙ ap (bases_in t.setup.shape words) firsts;
          callers = λ seat one.
              (f.made (suc u) version e).callers seat
              ∙ ap (λ rs. is_caller t.setup.shape words rs seat) (version_firsts words logs begun t found f u version
              at)
              ∙ callers_are t.setup (closing words logs begun t) t.book t.written t.ledger
              (first_rows t.setup.shape words (t.book.dir_row (u + 1)))
              (version_calls t.setup (closing words logs begun t) t.book t.written t.ledger u less) seat
              ∙ ap (λ n. has_call_of seat (calls_in t.setup.shape (closing words logs begun t)
              (ByDirectoryRow (t.book.dir_row n)))) (add-one u);
        }

    -- the callers of a row are those that have a call in it
    callers_is : (row seat : ℕ) → In (ByBucketRow row) (pieces_of t.setup.shape (closing words logs begun t)) →
        slice_index_or (slice_index_or found.callers.items row []) seat false
        ≡ has_call_of seat (calls_in t.setup.shape (closing words logs begun t) (ByBucketRow row))
    callers_is row seat i =
        let a = row_at_piece row i in
        elim (after_cases (λ r. Some r) (λ r. is_caller t.setup.shape words (r ∷ []) seat) row
        (count_of t.setup.shape BucketRows) (exchanged_rows t.setup.shape words logs) false) [
          | inl wrote ↦
              f.callers row seat ∙ wrote.is
              ∙ ap (λ r. is_caller t.setup.shape words (r ∷ []) seat) (some_one wrote.by row wrote.here)
              ∙ callers_are t.setup (closing words logs begun t) t.book t.written t.ledger (row ∷ [])
              (row_have words logs begun t row a) seat
          | inr kept ↦ absurd (kept.none row (piece_of_row words logs begun t row a) refl (row_within row a))
        ]

    -- the row that is made from a row is the one of the words
    next_is : (row base : ℕ) → In (ByBucketRow row) (pieces_of t.setup.shape (closing words logs begun t)) →
        base_in t.setup.shape words row ≡ Some base → slice_index_or found.next.items base None ≡ Some row
    next_is row base i e =
        let a = row_at_piece row i in
        elim (after_cases (base_in t.setup.shape words) (λ r. Some r) base
        (count_of t.setup.shape BucketRows) (exchanged_rows t.setup.shape words logs) None) [
          | inl wrote ↦
              f.next base ∙ wrote.is
              ∙ ap Some (one_made wrote.by row base (row_of_piece words logs begun t wrote.by wrote.there) a
              wrote.here e)
          | inr kept ↦ absurd (kept.none row (piece_of_row words logs begun t row a) e
              (subst (λ r. r < count_of t.setup.shape BucketRows) (sym (base_at row base a e))
              (t.written.within a.bucket a.before a.named (omega (arith, a.inside)))))
        ]

    -- and what is read is made from it
    is_next : (row base : ℕ) → slice_index_or found.next.items base None ≡ Some row →
        In (ByBucketRow row) (pieces_of t.setup.shape (closing words logs begun t))
        × (base_in t.setup.shape words row ≡ Some base)
    is_next row base e = elim (after_cases (base_in t.setup.shape words) (λ r. Some r) base
        (count_of t.setup.shape BucketRows) (exchanged_rows t.setup.shape words logs) None) [
          | inl wrote ↦
              let is : wrote.by ≡ row = some_one wrote.by row (sym wrote.is ∙ sym (f.next base) ∙ e) in (
                subst (λ r. In (ByBucketRow r) (pieces_of t.setup.shape (closing words logs begun t))) is
                    (row_has_piece words logs begun t wrote.by (row_of_piece words logs begun t wrote.by wrote.there)),
                subst (λ r. base_in t.setup.shape words r ≡ Some base) is wrote.here,
              )
          | inr kept ↦ (let bad : None ≡ Some row = sym kept.is ∙ sym (f.next base) ∙ e in cc)
        ]

    -- so what the words tell is found
    pub filled : Filled words logs begun t found
    filled = record {
      many = f.many ∙ rows_many words logs begun t;
      versions = version_is;
      rows = f.next_rows;
      row_callers = f.callers_rows;
      callers = callers_is;
      next_all = next_is;
      next_sound = is_next;
      unit_some = λ seat place unit inside e.
          some_unit words logs begun t found f seat place unit inside (sym (f.units seat place inside) ∙ e);
      unit_none = λ seat place inside e.
          none_unit words logs begun t found f seat place inside (sym (f.units seat place inside) ∙ e);
    }

  -- ---- how the turns begin

  -- the first row of each bucket of the opening
  in_opening : (b : ℕ) → t.book.named b ≡ true → t.book.born b ≡ 0 →
      In (t.book.row_at b 0) (firsts_in t.setup.shape words (slice_index_or (version_leaves t.setup.shape words logs)
      0 []))
  in_opening b n z =
      let at = leaf_at words logs begun t 0 (omega arith) in
      let before : Before t.setup words t.book t.written (t.book.born b) at.known =
      subst (λ v. Before t.setup words t.book t.written v at.known) (sym z) at.before in
      filter_map_in (first_row t.setup.shape words) (slice_index_or (version_leaves t.setup.shape words logs) 0 []) b
      (t.book.row_at b 0)
      (subst (In b) (sym at.is)
      (subst (λ v. In b (new_beside t.setup.shape words at.known (t.book.dir_row v))) z
      (new_born t.setup words t.book t.written at.known b n before)))
      (first_is t.setup words t.book t.written b n)

  -- a row that comes with a piece is one of the table
  piece_within : (y : Piece) (row : ℕ) → PieceAt t.setup (closing words logs begun t) t.book t.written t.ledger y →
      In row (rows_with t.setup.shape (closing words logs begun t) y) → row < count_of t.setup.shape BucketRows
  piece_within (ByBucketRow x) row a (inl e) =
      subst (λ r. r < count_of t.setup.shape BucketRows) (sym e) (row_within x a)
  piece_within (ByBucketRow x) row a (inr none) = elim none [ ]
  piece_within (ByDirectoryRow x) row a i =
      let b = first_has t.setup (closing words logs begun t) t.book t.written t.ledger x a row i in
      subst (λ r. r < count_of t.setup.shape BucketRows) (sym b.3) (t.written.within b.0 0 b.1 (omega arith))
  piece_within (ByLookup r) row a i = elim i [ ]

  -- and so is the row of a lookup
  look_within : (r : Record) → In r (lookups_of (closing words logs begun t)) →
      r.place < count_of t.setup.shape BucketRows
  look_within r m =
      let x = look_piece t.setup (closing words logs begun t) t.book t.written t.ledger r m in
      elim (t.ranked.bases (ByLookup r) x) [
        | inl opening ↦
            let b = start_row t.setup (closing words logs begun t) t.book t.written t.ledger r.place opening in
            subst (λ n. n < count_of t.setup.shape BucketRows) (sym b.3) (t.written.within b.0 0 b.1 (omega arith))
        | inr later ↦ piece_within later.0 r.place
            (piece_at t.setup (closing words logs begun t) t.book t.written t.ledger later.0 later.1) later.2
      ]

  module _ (progress : Progress) (f : IsBegun t.setup.shape words logs progress) where
    -- the opening's rows are marked
    placed_is : (row : ℕ) → slice_index_or progress.placed.items row false
        ≡ is_among (start_of t.setup.shape (closing words logs begun t)).rows row
    placed_is row =
        let firsts = firsts_in t.setup.shape words (slice_index_or (version_leaves t.setup.shape words logs) 0 []) in
        let start = (start_of t.setup.shape (closing words logs begun t)).rows in
        elim (after_cases (λ r. Some r) (λ r. true) row (count_of t.setup.shape BucketRows) firsts false) [
          | inl wrote ↦
              let b = opening_first words logs begun t row
              (subst (λ r. In r firsts) (some_one wrote.by row wrote.here) wrote.there) in
              f.placed row ∙ wrote.is
              ∙ sym (subst (λ r. is_among start r ≡ true) (sym b.3)
              (in_start_rows t.setup (closing words logs begun t) t.book t.written t.ledger b.0 b.1 b.2))
          | inr kept ↦ f.placed row ∙ kept.is ∙ elim (cases_Bool (is_among start row)) [
            | inr e ↦ sym e
            | inl e ↦
                let b = start_row t.setup (closing words logs begun t) t.book t.written t.ledger row e in
                absurd (kept.none row (subst (λ r. In r firsts) (sym b.3) (in_opening b.0 b.1 b.2)) refl
                (subst (λ r. r < count_of t.setup.shape BucketRows) (sym b.3)
                (t.written.within b.0 0 b.1 (omega arith))))
          ]
        ]

    -- the first version is there
    there_is : (row : ℕ) → is_among (t.book.dir_row 0 ∷ []) row
        ≡ is_among (start_of t.setup.shape (closing words logs begun t)).directories row
    there_is row =
        let start = (start_of t.setup.shape (closing words logs begun t)).directories in
        both_ways (is_among (t.book.dir_row 0 ∷ []) row) (is_among start row)
        (λ h. elim (among_is_in (t.book.dir_row 0 ∷ []) row h) [
          | inl e ↦ subst (λ r. is_among start r ≡ true) (sym e)
              (in_start_dirs t.setup (closing words logs begun t) t.book t.written t.ledger)
          | inr none ↦ elim none [ ]
        ])
        (λ h. among_in (t.book.dir_row 0 ∷ []) row
        (inl (start_dir t.setup (closing words logs begun t) t.book t.written t.ledger row h)))

    -- and all lookups are open
    looks_is : (row : ℕ) → slice_index_or progress.looks.items row 0
        ≡ open_looks t.setup (closing words logs begun t) (start_of t.setup.shape (closing words logs begun t)) row
    looks_is row = elim (cases_lt row (count_of t.setup.shape BucketRows)) [
      | inl less ↦ f.looks row less
          ∙ count_same (λ (r : Record). r.place == row)
          (is_open t.setup (closing words logs begun t) (start_of t.setup.shape (closing words logs begun t)) row)
          (lookups_of (closing words logs begun t)) (λ r m. with_true (r.place == row))
      | inr past ↦ get_or_past progress.looks.items row 0 (omega (arith, past, f.looks_rows))
          ∙ sym (count_none
          (is_open t.setup (closing words logs begun t) (start_of t.setup.shape (closing words logs begun t)) row)
          (lookups_of (closing words logs begun t)) (λ r m.
          sym (with_true (r.place == row)) ∙ elsewhere r (look_within r m) past))
    ]
      where
        with_true : (b : Bool) → b ≡ b && true
        with_true true = refl
        with_true false = refl

        elsewhere : (r : Record) → r.place < count_of t.setup.shape BucketRows →
            count_of t.setup.shape BucketRows ≤ row → (r.place == row) ≡ false
        elsewhere r less past = elim (cases_Bool (r.place == row)) [
          | inr e ↦ e
          | inl e ↦ absurd (omega (arith, less, past, eqb-true r.place row e))
        ]

    -- so the turns begin at the start
    pub begins : Begun words logs begun t progress
    begins = record {
      latest = f.latest;
      placed = f.placed_rows;
      looks = f.looks_rows;
      marks = record { rows = placed_is; versions = there_is; left = looks_is };
      aside_all = λ row i none.
          let a = row_at_piece row i in
          subst (In row) (sym f.aside)
          (filter_in (λ r. is_free t.setup.shape words (r ∷ [])) (exchanged_rows t.setup.shape words logs) row
          (piece_of_row words logs begun t row a)
          (none_free t.setup (closing words logs begun t) t.book t.written t.ledger (row ∷ [])
          (row_have words logs begun t row a) none));
      aside_sound = λ row m.
          let i = in_filter (λ r. is_free t.setup.shape words (r ∷ [])) (exchanged_rows t.setup.shape words logs) row
          (subst (In row) f.aside m) in (
            row_has_piece words logs begun t row (row_of_piece words logs begun t row i.0),
            free_none t.setup (closing words logs begun t) t.book t.written t.ledger (row ∷ []) i.1,
          );
    }
