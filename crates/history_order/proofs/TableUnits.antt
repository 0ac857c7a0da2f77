-- The units of the calls: what is read after the writes is the piece of the call.
use Rattle.std.proofs.Common.{◌≡◌, ℕ, zero, suc, ◌+◌, ◌<◌, ◌≤◌, true, not, List, [], ◌∷◌, length, get_or, map, Option, Some, None, refl, inl, inr, sym, ap, ◌∙◌, subst, arith, add-one}
use Rattle.std.specs.Option.{option_map_or}
use Rattle.std.specs.Prelude.{if◌then◌else◌, filter_map, slice_get}
use Rattle.std.specs.List.{range_with_len}
use Rattle.std.proofs.lemmas.Bool.{cases_Bool, not-true}
use Rattle.std.proofs.lemmas.Option.{get_or_from_slice_get, slice_get_within}
use Rattle.std.proofs.lemmas.List.FromFn.{get_or-map-range_with_len, length-range_with_len}
use Rattle.plain_map.specs.declared.records.Record.{Record}
use Rattle.plain_map.specs.declared.records.Pending.{Pending}
use Rattle.plain_map.specs.History.{Placed, answered, pending, seat_of, number_of}
use Rattle.table_model.specs.Setup.{seats_of}
use Rattle.plain_map.specs.Calls.{is_update}
use Rattle.table_model.specs.Reading.{bucket_row, first_row}
use Rattle.table_model.specs.Order.{Closing, Piece, ByBucketRow, ByDirectoryRow, ByLookup, calls_in, calls_of, lookups_of, pieces_of, new_number, new_in_rows, number_beside, first_rows, updates_in_rows}
use Rattle.list_laws.proofs.Lists.{In, in_both, in_map, in_flat_map, flat_map_in, in_filter, filter_in, in_filter_map}
use Rattle.closed_laws.proofs.Read.{base_is, first_is}
use Rattle.closed_laws.proofs.Ledger.{new_from}
use Rattle.closed_laws.proofs.Ends.{call_there}
use Rattle.closed_laws.proofs.Pieces.{PieceAt, RowAt, piece_at, row_piece, dir_piece, look_piece}
use Rattle.table_model.specs.Closing.{closing_with, log_of}
use Rattle.history_order.specs.Parts.{unit_of}
use Rattle.history_order.specs.Told.{Told}
use Rattle.history_order.specs.Filled.{IsUnit}
use Rattle.history_order.specs.Filling.{leaves_from, exchanged_in, firsts_in}
use Rattle.history_order.specs.Columns.{after_all, numbered_from, place_of, look_place, row_place, version_place, unit_at}
use Rattle.history_order.specs.Fills.{IsFound, version_rows, version_leaves, exchanged_rows}
use Rattle.history_order.specs.declared.tables.Unit.{Unit}
use Rattle.history_order.specs.declared.tables.Unit.TheVariants.{Lookup, Row, Version as VersionAt}
use Rattle.history_order.specs.declared.tables.Version.{Version}
use Rattle.history_order.specs.declared.tables.Found.{Found}
use Rattle.history_order.proofs.Units.{units}
use Rattle.history_order.proofs.After.{after_cases, place_number, number_place, numbered_in, in_numbered, at_in}
use Rattle.history_order.proofs.Exchanges.{rows_turned, LeavesAt, leaves_at, before_none, new_named, new_leaves_are, entry_from, exchanged_from, exchanged_to}
use Rattle.history_order.proofs.NewCalls.{HaveCalls, row_calls, version_calls, call_new, new_call}
use Rattle.std.proofs.Math.Nat.{zero-add}
use Rattle.list_laws.proofs.Places.{stands_there as there}

-- one value
pub some_one : {A : Type 0} → (x y : A) → Some x ≡ Some y → x ≡ y
some_one x y e = cc

-- a list of lists has what is read of it
list_in : {A : Type 0} → (lists : List (List A)) (i : ℕ) → i < length lists → In (get_or lists i []) lists
list_in [] i less = absurd (omega (arith, less))
list_in (xs ∷ lists) zero less = inl refl
list_in (xs ∷ lists) (suc i) less = inr (list_in lists i (omega (arith, less)))

module _ (words : List ℕ) (logs : List (List Record)) (begun : List Pending) (t : Told words logs begun) where
  abbrev pub closing : Closing
  closing = closing_with words logs begun

  -- ---- the calls by seat

  -- a record stands in its seat's list
  pub record_at : (r : Record) → In r closing.records →
      (i : ℕ) × (slice_get (log_of logs r.seat) i ≡ Some r) × (i < length (log_of logs r.seat)) × (r.number ≡ i + 1)
      × In r (log_of logs r.seat)
  record_at r m =
      let log = in_flat_map (λ (xs : List Record). xs) logs r m in
      let q = at_in logs log.0 log.1 in
      let is : get_or logs q.0 [] ≡ log.0 = get_or_from_slice_get logs q.0 log.0 [] q.1 in
      let i = at_in log.0 r log.2 in
      let at : slice_get (log_of logs q.0) i.0 ≡ Some r = ap (λ xs. slice_get xs i.0) is ∙ i.1 in
      let n = t.numbered q.0 i.0 r at in (
        i.0,
        subst (λ s. slice_get (log_of logs s) i.0 ≡ Some r) (sym n.0) at,
        subst (λ s. i.0 < length (log_of logs s)) (sym n.0) (subst (λ xs. i.0 < length xs) (sym is) i.2),
        n.1,
        subst (λ s. In r (log_of logs s)) (sym n.0) (subst (In r) (sym is) log.2),
      )

  -- so each call has a place
  pub call_few : (c : Placed) → In c (calls_of closing) → number_of c ≤ length (log_of logs (seat_of c)) + 1
  call_few c m = elim (in_both c (map answered closing.records) (map pending closing.begun) m) [
    | inl a ↦
        let r = in_map answered closing.records c a in
        let at = record_at r.0 r.1 in
        subst (λ d. number_of d ≤ length (log_of logs (seat_of d)) + 1) (sym r.2)
        (omega (arith, at.2, at.3))
    | inr b ↦
        let p = in_map pending closing.begun c b in
        subst (λ d. number_of d ≤ length (log_of logs (seat_of d)) + 1) (sym p.2) (omega (arith, t.next p.0 p.1))
  ]

  -- ---- the exchanged rows

  -- they are read from the rows in order
  exchanged_is : exchanged_rows t.setup.shape words logs
      ≡ exchanged_in t.setup.shape words (leaves_from t.setup.shape words []
      (map t.book.dir_row (range_with_len 0 (suc t.book.dir_top))))
  exchanged_is = ap (λ rs. exchanged_in t.setup.shape words (leaves_from t.setup.shape words [] rs))
      (rows_turned t.setup words t.book t.written)

  -- they are those of the pieces
  pub row_of_piece : (row : ℕ) → In row (exchanged_rows t.setup.shape words logs) →
      RowAt t.setup closing t.book t.written t.ledger row
  row_of_piece row m =
      let r = exchanged_from t.setup words t.book t.written row (subst (In row) exchanged_is m) in
      record { bucket = r.0; before = r.1; named = r.2; inside = r.3; is = r.4 }

  pub piece_of_row : (row : ℕ) → RowAt t.setup closing t.book t.written t.ledger row →
      In row (exchanged_rows t.setup.shape words logs)
  piece_of_row row a = subst (In row) (sym exchanged_is)
      (subst (λ r. In r (exchanged_in t.setup.shape words (leaves_from t.setup.shape words []
      (map t.book.dir_row (range_with_len 0 (suc t.book.dir_top)))))) (sym a.is)
      (exchanged_to t.setup words t.book t.written a.bucket a.before a.named a.inside))

  -- and each has its piece
  pub row_has_piece : (row : ℕ) → RowAt t.setup closing t.book t.written t.ledger row →
      In (ByBucketRow row) (pieces_of t.setup.shape closing)
  row_has_piece row a = subst (λ r. In (ByBucketRow r) (pieces_of t.setup.shape closing)) (sym a.is)
      (row_piece t.setup closing t.book t.written t.ledger a.bucket a.before a.named a.inside)

  -- the numbers that are new in it are of calls
  pub row_have : (row : ℕ) → RowAt t.setup closing t.book t.written t.ledger row →
      HaveCalls t.setup closing t.book t.written t.ledger (row ∷ [])
  row_have row a = subst (λ r. HaveCalls t.setup closing t.book t.written t.ledger (r ∷ [])) (sym a.is)
      (row_calls t.setup closing t.book t.written t.ledger a.bucket a.before a.named a.inside)

  -- ---- the versions

  -- there are as many as the book has
  pub rows_many : length (version_rows t.setup.shape words logs) ≡ t.book.dir_top + 1
  rows_many = ap length (rows_turned t.setup words t.book t.written)
      ∙ length_map t.book.dir_row (range_with_len 0 (suc t.book.dir_top))
      ∙ length-range_with_len 0 (suc t.book.dir_top) ∙ sym (add-one t.book.dir_top)
    where
      length_map : (f : ℕ → ℕ) (xs : List ℕ) → length (map f xs) ≡ length xs
      length_map f [] = refl
      length_map f (x ∷ xs) = ap suc (length_map f xs)

  -- each is the book's
  pub row_at : (v : ℕ) → v ≤ t.book.dir_top → get_or (version_rows t.setup.shape words logs) v 0 ≡ t.book.dir_row v
  row_at v o = ap (λ rs. get_or rs v 0) (rows_turned t.setup words t.book t.written)
      ∙ get_or-map-range_with_len t.book.dir_row 0 (suc t.book.dir_top) v v 0 (omega (arith, o)) (omega arith)

  -- with its leaves
  pub leaf_at : (v : ℕ) → v ≤ t.book.dir_top →
      LeavesAt t.setup words t.book t.written v (get_or (version_leaves t.setup.shape words logs) v [])
  leaf_at v o =
      subst (λ rs. LeavesAt t.setup words t.book t.written v (get_or (leaves_from t.setup.shape words [] rs) v []))
      (sym (rows_turned t.setup words t.book t.written))
      (subst (λ n. LeavesAt t.setup words t.book t.written n (get_or (leaves_from t.setup.shape words []
      (map t.book.dir_row (range_with_len 0 (suc t.book.dir_top)))) v [])) (zero-add v)
      (leaves_at t.setup words t.book t.written [] 0 (suc t.book.dir_top) v
      (before_none t.setup words t.book t.written) (omega (arith, o))))

  -- the first rows of a later version
  pub firsts_are : (v : ℕ) → v < t.book.dir_top →
      firsts_in t.setup.shape words (get_or (version_leaves t.setup.shape words logs) (v + 1) [])
      ≡ first_rows t.setup.shape words (t.book.dir_row (v + 1))
  firsts_are v o =
      let at = leaf_at (v + 1) (omega (arith, o)) in
      ap (filter_map (first_row t.setup.shape words))
      (at.is ∙ new_leaves_are t.setup words t.book t.written v at.known o at.before)

  -- those of the opening
  pub opening_first : (row : ℕ) →
      In row (firsts_in t.setup.shape words (get_or (version_leaves t.setup.shape words logs) 0 [])) →
      (b : ℕ) × (t.book.named b ≡ true) × (t.book.born b ≡ 0) × (row ≡ t.book.row_at b 0)
  opening_first row m =
      let at = leaf_at 0 (omega arith) in
      let b = in_filter_map (first_row t.setup.shape words)
      (get_or (version_leaves t.setup.shape words logs) 0 []) row m in
      let e = t.written.entries 0 b.0 (omega arith) (entry_from t.setup words t.book t.written 0 b.0 (omega arith)
      (new_named t.setup words t.book t.written 0 at.known b.0 (omega arith) (subst (In b.0) at.is b.1))) in (
        b.0,
        e.0,
        omega (arith, e.1),
        some_one row (t.book.row_at b.0 0) (sym b.2 ∙ first_is t.setup words t.book t.written b.0 e.0),
      )

  -- no number is new in them
  opening_old : (seat m : ℕ) →
      new_in_rows t.setup.shape words
      (firsts_in t.setup.shape words (get_or (version_leaves t.setup.shape words logs) 0 [])) seat ≡ Some m → ⊥
  opening_old seat m e =
      let f = new_from t.setup words
      (firsts_in t.setup.shape words (get_or (version_leaves t.setup.shape words logs) 0 [])) seat m e in
      let b = opening_first f.0 f.1 in
      let base : (bucket_row t.setup.shape words f.0).base ≡ None =
      ap (λ r. (bucket_row t.setup.shape words r).base) b.3
      ∙ base_is t.setup words t.book t.written b.0 0 b.1 (omega arith) ∙ t.written.opening b.0 b.1 b.2 in
      (let bad : None ≡ Some m = sym (ap (number_beside t.setup.shape words seat f.0) base) ∙ f.2 in cc)

  -- ---- the units

  -- the piece of a call is its unit
  pub unit_is : (seat place : ℕ) (x : Piece) (c : Placed) → In x (pieces_of t.setup.shape closing) →
      In c (calls_in t.setup.shape closing x) → seat_of c ≡ seat → number_of c ≡ place + 1 →
      unit_of t.setup closing seat (place + 1) ≡ Some x
  unit_is seat place x c i m s n =
      subst (λ k. unit_of t.setup closing seat k ≡ Some x) n
      (subst (λ q. unit_of t.setup closing q (number_of c) ≡ Some x) s
      ((units t.setup closing t.book t.written t.ledger).there x c i m))

  -- the lookup of a record that stands in a seat's list
  abbrev Has : (seat place : ℕ) → Unit → Type 0
  Has seat place unit = (x : Piece) × IsUnit words logs begun t seat place unit x
      × (unit_of t.setup closing seat (place + 1) ≡ Some x)

  -- a written row
  row_unit : (seat place row : ℕ) → seat < seats_of t.setup → In row (exchanged_rows t.setup.shape words logs) →
      row_place t.setup.shape words seat row ≡ Some place → Has seat place (Row row)
  row_unit seat place row inside m e =
      let a = row_of_piece row m in
      let new = place_number (new_number t.setup.shape words seat row) place e in
      let rows : new_in_rows t.setup.shape words (row ∷ []) seat ≡ Some (place + 1) =
      ap (λ o. option_map_or Some o None) new in
      let c = row_have row a seat (place + 1) inside rows in (
        ByBucketRow row,
        refl,
        unit_is seat place (ByBucketRow row) c.0 (row_has_piece row a)
            (new_call t.setup closing t.book t.written t.ledger (row ∷ []) seat (place + 1) c.0 inside rows c.1)
            c.1.seat c.1.number,
      )

  -- a written lookup
  look_unit : (seat place : ℕ) (r : Record) → seat < seats_of t.setup → In r (log_of logs seat) →
      look_place r ≡ Some place → Has seat place Lookup
  look_unit seat place r inside m e = elim (cases_Bool (is_update r.call)) [
    | inl update ↦ (let bad : None ≡ Some place =
        sym (ap (λ b. if b then None else place_of (Some r.number)) update) ∙ e in cc)
    | inr look ↦
        let number = some_one r.number (place + 1) (place_number (Some r.number) place
        (sym (ap (λ b. if b then None else place_of (Some r.number)) look) ∙ e)) in
        let i = at_in (log_of logs seat) r m in
        let n = t.numbered seat i.0 r i.1 in
        let at : i.0 ≡ place = omega (arith, n.1, number) in
        let there : In r closing.records = flat_map_in (λ (xs : List Record). xs) logs (log_of logs seat) r
        (list_in logs seat (omega (arith, t.seats, inside))) m in
        let look_in : In r (lookups_of closing) =
        filter_in (λ (q : Record). not (is_update q.call)) closing.records r there (ap not look) in (
          ByLookup r,
          (r, subst (λ j. slice_get (log_of logs seat) j ≡ Some r) at i.1, refl),
          unit_is seat place (ByLookup r) (answered r)
              (look_piece t.setup closing t.book t.written t.ledger r look_in) (inl refl) n.0 number,
        )
  ]

  module _ (found : Found) (f : IsFound t.setup.shape words logs found) where
    -- a version that is found
    pub version_few : (v : ℕ) (version : Version) → slice_get found.versions.items v ≡ Some version →
        v ≤ t.book.dir_top
    version_few v version e =
        let less = slice_get_within found.versions.items v version e in omega (arith, less, f.many, rows_many)

    -- has the first rows of its leaves
    pub version_firsts : (v : ℕ) (version : Version) → slice_get found.versions.items (v + 1) ≡ Some version →
        version.firsts.items ≡ first_rows t.setup.shape words (t.book.dir_row (v + 1))
    version_firsts v version e =
        let few = version_few (v + 1) version e in
        (f.made (v + 1) version e).firsts ∙ firsts_are v (omega (arith, few))

    -- a written version
    version_unit : (seat place v : ℕ) (version : Version) → seat < seats_of t.setup →
        slice_get found.versions.items v ≡ Some version →
        place_of (new_in_rows t.setup.shape words version.firsts.items seat) ≡ Some place →
        Has seat place (VersionAt v)
    version_unit seat place zero version inside e h =
        absurd (opening_old seat (place + 1)
        (ap (λ rs. new_in_rows t.setup.shape words rs seat) (sym (f.made 0 version e).firsts)
        ∙ place_number (new_in_rows t.setup.shape words version.firsts.items seat) place h))
    version_unit seat place (suc v) version inside e h =
        let at : slice_get found.versions.items (v + 1) ≡ Some version =
        subst (λ n. slice_get found.versions.items n ≡ Some version) (sym (add-one v)) e in
        let few = version_few (v + 1) version at in
        let less : v < t.book.dir_top = omega (arith, few) in
        let rows = first_rows t.setup.shape words (t.book.dir_row (v + 1)) in
        let new : new_in_rows t.setup.shape words rows seat ≡ Some (place + 1) =
        ap (λ rs. new_in_rows t.setup.shape words rs seat) (sym (version_firsts v version at))
        ∙ place_number (new_in_rows t.setup.shape words version.firsts.items seat) place h in
        let c = version_calls t.setup closing t.book t.written t.ledger v less seat (place + 1) inside new in (
          ByDirectoryRow (t.book.dir_row (v + 1)),
          (omega arith, omega (arith, few), ap (λ n. ByDirectoryRow (t.book.dir_row n)) (add-one v)),
          unit_is seat place (ByDirectoryRow (t.book.dir_row (v + 1))) c.0
              (dir_piece t.setup closing t.book t.written t.ledger v less)
              (new_call t.setup closing t.book t.written t.ledger rows seat (place + 1) c.0 inside new c.1)
              c.1.seat c.1.number,
        )

    -- the lists that are written for a seat
    abbrev many_of : ℕ → ℕ
    many_of seat = length (log_of logs seat) + 1

    abbrev by_rows : (seat place : ℕ) → Option Unit
    by_rows seat place = after_all (row_place t.setup.shape words seat) (λ row. Some (Row row)) place (many_of seat)
        (exchanged_rows t.setup.shape words logs) None

    abbrev by_versions : (seat place : ℕ) → Option Unit
    by_versions seat place = after_all (version_place t.setup.shape words seat) (λ numbered. Some (VersionAt
        numbered.0))
        place (many_of seat) (numbered_from 0 found.versions.items) (by_rows seat place)

    -- what is read is the unit of its piece
    pub some_unit : (seat place : ℕ) (unit : Unit) → seat < seats_of t.setup →
        unit_at t.setup.shape words (exchanged_rows t.setup.shape words logs) found.versions.items (log_of logs seat)
        seat place ≡ Some unit →
        Has seat place unit
    some_unit seat place unit inside e =
        elim (after_cases look_place (λ r. Some Lookup) place (many_of seat) (log_of logs seat) (by_versions seat
        place)) [
          | inl wrote ↦ subst (Has seat place) (some_one Lookup unit (sym wrote.is ∙ e))
              (look_unit seat place wrote.by inside wrote.there wrote.here)
          | inr kept ↦
              elim (after_cases (version_place t.setup.shape words seat) (λ numbered. Some (VersionAt numbered.0)) place
              (many_of seat) (numbered_from 0 found.versions.items) (by_rows seat place)) [
                | inl wrote ↦
                    let v = numbered_in 0 found.versions.items wrote.by wrote.there in
                    let same : VersionAt v.0 ≡ unit =
                    ap VersionAt (sym (v.1 ∙ zero-add v.0))
                    ∙ some_one (VersionAt wrote.by.0) unit (sym wrote.is ∙ sym kept.is ∙ e) in
                    subst (Has seat place) same
                    (version_unit seat place v.0 wrote.by.1 inside v.2 wrote.here)
                | inr kept_then ↦
                    elim (after_cases (row_place t.setup.shape words seat) (λ row. Some (Row row)) place (many_of seat)
                    (exchanged_rows t.setup.shape words logs) None) [
                      | inl wrote ↦ subst (Has seat place)
                          (some_one (Row wrote.by) unit (sym wrote.is ∙ sym kept_then.is ∙ sym kept.is ∙ e))
                          (row_unit seat place wrote.by inside wrote.there wrote.here)
                      | inr nothing ↦ (let bad : None ≡ Some unit =
                          sym nothing.is ∙ sym kept_then.is ∙ sym kept.is ∙ e in cc)
                    ]
              ]
        ]

    -- where none was written there is none
    pub no_unit : (seat place : ℕ) (x : Piece) (c : Placed) → seat < seats_of t.setup →
        unit_at t.setup.shape words (exchanged_rows t.setup.shape words logs) found.versions.items (log_of logs seat)
        seat place ≡ None →
        In x (pieces_of t.setup.shape closing) → In c (calls_in t.setup.shape closing x) → seat_of c ≡ seat →
        number_of c ≡ place + 1 → place < many_of seat → ⊥
    no_unit seat place x c inside e i m s n less =
        elim (after_cases look_place (λ r. Some Lookup) place (many_of seat) (log_of logs seat) (by_versions seat
        place)) [
          | inl wrote ↦ (let bad : Some Lookup ≡ None = sym wrote.is ∙ e in cc)
          | inr kept ↦
              elim (after_cases (version_place t.setup.shape words seat) (λ numbered. Some (VersionAt numbered.0)) place
              (many_of seat) (numbered_from 0 found.versions.items) (by_rows seat place)) [
                | inl wrote ↦ (let bad : Some (VersionAt wrote.by.0) ≡ None = sym wrote.is ∙ sym kept.is ∙ e in cc)
                | inr kept_then ↦
                    elim (after_cases (row_place t.setup.shape words seat) (λ row. Some (Row row)) place (many_of seat)
                    (exchanged_rows t.setup.shape words logs) None) [
                      | inl wrote ↦ (let bad : Some (Row wrote.by) ≡ None =
                          sym wrote.is ∙ sym kept_then.is ∙ sym kept.is ∙ e in cc)
                      | inr nothing ↦ hit x (piece_at t.setup closing t.book t.written t.ledger x i) m kept.none
                          kept_then.none nothing.none
                    ]
              ]
        ]
      where
        new_here : (rows : List ℕ) → In c (updates_in_rows t.setup.shape closing rows) →
            new_in_rows t.setup.shape words rows seat ≡ Some (place + 1)
        new_here rows j =
            subst (λ q. new_in_rows t.setup.shape words rows q ≡ Some (place + 1)) s
            ((call_new t.setup closing t.book t.written t.ledger rows c j).0 ∙ ap Some n)

        hit : (x : Piece) → PieceAt t.setup closing t.book t.written t.ledger x →
            In c (calls_in t.setup.shape closing x) →
            ((r : Record) → In r (log_of logs seat) → look_place r ≡ Some place → place < many_of seat → ⊥) →
            ((v : ℕ × Version) → In v (numbered_from 0 found.versions.items) →
            version_place t.setup.shape words seat v ≡ Some place → place < many_of seat → ⊥) →
            ((row : ℕ) → In row (exchanged_rows t.setup.shape words logs) →
            row_place t.setup.shape words seat row ≡ Some place → place < many_of seat → ⊥) → ⊥
        hit (ByBucketRow row) a j no_look no_version no_row =
            no_row row (piece_of_row row a)
            (number_place (new_number t.setup.shape words seat row) place
            (alone (new_number t.setup.shape words seat row) (new_here (row ∷ []) j))) less
          where
            alone : (o : Option ℕ) → option_map_or Some o None ≡ Some (place + 1) →
                o ≡ Some (place + 1)
            alone None h = cc
            alone (Some number) h = h
        hit (ByDirectoryRow row) a j no_look no_version no_row =
            let version = there found.versions.items (a.before + 1) (omega (arith, a.inside, f.many, rows_many)) in
            let firsts = version_firsts a.before version.0 version.1 in
            no_version (0 + (a.before + 1), version.0)
            (in_numbered 0 found.versions.items (a.before + 1) version.0 version.1)
            (number_place (new_in_rows t.setup.shape words version.0.firsts.items seat) place
            (ap (λ rs. new_in_rows t.setup.shape words rs seat) firsts
            ∙ new_here (first_rows t.setup.shape words (t.book.dir_row (a.before + 1)))
            (subst (λ z. In c (calls_in t.setup.shape closing (ByDirectoryRow z))) a.is j))) less
        hit (ByLookup r) a j no_look no_version no_row = elim j [
          | inr none ↦ elim none [ ]
          | inl is ↦
              let seat_is : r.seat ≡ seat = sym (ap seat_of is) ∙ s in
              let number : r.number ≡ place + 1 = sym (ap number_of is) ∙ n in
              let look = in_filter (λ (q : Record). not (is_update q.call)) closing.records r a in
              no_look r (subst (λ q. In r (log_of logs q)) seat_is (record_at r look.0).4)
              (look_place_of r place look.1 number) less
        ]
          where
            look_place_of : (q : Record) (p : ℕ) → not (is_update q.call) ≡ true → q.number ≡ p + 1 →
                look_place q ≡ Some p
            look_place_of q p h e =
                ap (λ b. if b then None else place_of (Some q.number))
                (not-true (is_update q.call) h)
                ∙ number_place (Some q.number) p (ap Some e)

    -- so where it reads none the call has no unit
    pub none_unit : (seat place : ℕ) → seat < seats_of t.setup →
        unit_at t.setup.shape words (exchanged_rows t.setup.shape words logs) found.versions.items (log_of logs seat)
        seat place ≡ None →
        unit_of t.setup closing seat (place + 1) ≡ None
    none_unit seat place inside e = go (unit_of t.setup closing seat (place + 1)) refl
      where
        go : (o : Option Piece) → unit_of t.setup closing seat (place + 1) ≡ o → o ≡ None
        go None h = refl
        go (Some x) h =
            let b = (units t.setup closing t.book t.written t.ledger).back seat (place + 1) x h in
            let c = b.1.0 in
            let there = call_there t.setup closing t.book t.written t.ledger x c
            (piece_at t.setup closing t.book t.written t.ledger x b.0) b.1.1 in
            let few = call_few c there in
            let less : place < many_of seat =
            omega (arith, subst (λ q. number_of c ≤ length (log_of logs q) + 1) b.1.2 few, b.1.3) in
            absurd (no_unit seat place x c inside e b.0 b.1.1 b.1.2 b.1.3 less)
