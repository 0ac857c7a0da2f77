-- What the tables say, beside what is told of a closed table.
use Rattle.std.specs.Prelude.{◌≡◌, ℕ, ◌+◌, ◌<◌, ◌≤◌, false, List, [], ◌∷◌, length, Some, None, slice_get, slice_index_or, map}
use Rattle.plain_map.specs.declared.records.Record.{Record}
use Rattle.plain_map.specs.declared.records.Pending.{Pending}
use Rattle.plain_map.specs.declared.full.FullKind.TheVariants.{BucketRows}
use Rattle.word_rows.specs.Shape.{count_of}
use Rattle.table_model.specs.Setup.{seats_of}
use Rattle.table_model.specs.Reading.{bucket_row, is_among}
use Rattle.table_model.specs.Order.{Closing, Piece, ByBucketRow, ByDirectoryRow, ByLookup, calls_in, pieces_of, first_rows, start_of}
use Rattle.table_model.specs.Turns.{has_call_of}
use Rattle.list_laws.proofs.Lists.{In}
use Rattle.table_model.specs.Closing.{closing_with, log_of}
use Rattle.history_order.specs.Told.{Told}
use Rattle.history_order.specs.declared.tables.Unit.{Unit}
use Rattle.history_order.specs.declared.tables.Unit.TheVariants.{Lookup, Row, Version as VersionAt}
use Rattle.history_order.specs.declared.tables.Version.{Version}
use Rattle.history_order.specs.declared.tables.Found.{Found}
use Rattle.history_order.specs.declared.tables.Progress.{Progress}
use Rattle.history_order.specs.Parts.{unit_of, bases_of, Marks}

module _ (words : List ℕ) (logs : List (List Record)) (begun : List Pending) (t : Told words logs begun) where
  -- what is told of
  abbrev pub closing_told : Closing
  closing_told = closing_with words logs begun

  -- the piece of a unit of the call of a seat with this place
  abbrev pub IsUnit : (seat place : ℕ) → Unit → Piece → Type 0
  IsUnit seat place Lookup x = (r : Record) × (slice_get (log_of logs seat) place ≡ Some r) × (x ≡ ByLookup r)
  IsUnit seat place (Row row) x = x ≡ ByBucketRow row
  IsUnit seat place (VersionAt v) x = (1 ≤ v) × (v ≤ t.book.dir_top) × (x ≡ ByDirectoryRow (t.book.dir_row v))

  -- what is written of a version
  pub record IsVersion (v : ℕ) (version : Version) : Type 0 where
    pub row : version.row ≡ t.book.dir_row v
    pub firsts : 1 ≤ v → version.firsts.items ≡ first_rows t.setup.shape words (t.book.dir_row v)
    pub bases : 1 ≤ v → version.bases.items ≡ bases_of t.setup closing_told (ByDirectoryRow (t.book.dir_row v))
    pub callers : (seat : ℕ) → 1 ≤ v → slice_index_or version.callers seat false
        ≡ has_call_of seat (calls_in t.setup.shape closing_told (ByDirectoryRow (t.book.dir_row v)))

  -- what the words tell is found
  pub record Filled (found : Found) : Type 0 where
    pub many : length found.versions.items ≡ t.book.dir_top + 1
    pub versions : (v : ℕ) (version : Version) → slice_get found.versions.items v ≡ Some version → IsVersion v version
    pub rows : length found.next.items ≡ count_of t.setup.shape BucketRows
    pub row_callers : length found.callers.items ≡ count_of t.setup.shape BucketRows
    pub callers : (row seat : ℕ) → In (ByBucketRow row) (pieces_of t.setup.shape closing_told) →
        slice_index_or (slice_index_or found.callers.items row []) seat false
        ≡ has_call_of seat (calls_in t.setup.shape closing_told (ByBucketRow row))
    -- a bucket row that was made from this one by an exchange
    pub next_all : (row base : ℕ) → In (ByBucketRow row) (pieces_of t.setup.shape closing_told) →
        (bucket_row t.setup.shape words row).base ≡ Some base →
        slice_index_or found.next.items base None ≡ Some row
    pub next_sound : (row base : ℕ) → slice_index_or found.next.items base None ≡ Some row →
        In (ByBucketRow row) (pieces_of t.setup.shape closing_told)
        × ((bucket_row t.setup.shape words row).base ≡ Some base)
    pub unit_some : (seat place : ℕ) (unit : Unit) → seat < seats_of t.setup →
        slice_index_or (slice_index_or (map (λ units. units.items) found.units.items) seat []) place None ≡ Some unit →
        (x : Piece) × IsUnit seat place unit x × (unit_of t.setup closing_told seat (place + 1) ≡ Some x)
    pub unit_none : (seat place : ℕ) → seat < seats_of t.setup →
        slice_index_or (slice_index_or (map (λ units. units.items) found.units.items) seat []) place None ≡ None →
        unit_of t.setup closing_told seat (place + 1) ≡ None

  -- how the turns begin
  pub record Begun (progress : Progress) : Type 0 where
    pub latest : progress.latest ≡ 1
    pub placed : length progress.placed.items ≡ count_of t.setup.shape BucketRows
    pub looks : length progress.looks.items ≡ count_of t.setup.shape BucketRows
    pub marks : Marks t.setup closing_told (λ row. slice_index_or progress.placed.items row false)
        (λ row. is_among (t.book.dir_row 0 ∷ []) row) (λ row. slice_index_or progress.looks.items row 0)
        (start_of t.setup.shape closing_told)
    pub aside_all : (row : ℕ) → In (ByBucketRow row) (pieces_of t.setup.shape closing_told) →
        calls_in t.setup.shape closing_told (ByBucketRow row) ≡ [] → In row progress.aside.items
    pub aside_sound : (row : ℕ) → In row progress.aside.items →
        In (ByBucketRow row) (pieces_of t.setup.shape closing_told)
        × (calls_in t.setup.shape closing_told (ByBucketRow row) ≡ [])
