-- The tables, list by list: what they are filled with, whatever the words.
use Rattle.std.specs.Prelude.{◌≡◌, ℕ, ◌+◌, ◌<◌, true, false, List, [], ◌∷◌, length, map, reverse, Option, Some, None, slice_get, slice_index_or, flat_map, filter}
use Rattle.plain_map.specs.declared.records.Record.{Record}
use Rattle.plain_map.specs.declared.full.FullKind.TheVariants.{BucketRows}
use Rattle.word_rows.specs.Shape.{Shape, count_of}
use Rattle.table_model.specs.Reading.{directory_rows}
use Rattle.table_model.specs.Closing.{log_of}
use Rattle.history_order.specs.Filling.{leaves_from, exchanged_in, firsts_in}
use Rattle.history_order.specs.Columns.{IsMade, after_all, base_in, is_caller, is_free, looks_in, row_place, unit_at}
use Rattle.history_order.specs.declared.tables.Version.{Version}
use Rattle.history_order.specs.declared.tables.Columns.{Columns}
use Rattle.history_order.specs.declared.tables.Found.{Found}
use Rattle.history_order.specs.declared.tables.Unit.{Unit}
use Rattle.history_order.specs.declared.tables.Unit.TheVariants.{Row}
use Rattle.history_order.specs.declared.tables.Progress.{Progress}

module _ (shape : Shape) (words : List ℕ) (logs : List (List Record)) where
  -- the directory rows from the opening on, the buckets that each named first, and the rows that were exchanged
  abbrev pub version_rows : List ℕ
  version_rows = reverse (directory_rows shape words)

  abbrev pub version_leaves : List (List ℕ)
  version_leaves = leaves_from shape words [] version_rows

  abbrev pub exchanged_rows : List ℕ
  exchanged_rows = exchanged_in shape words version_leaves

  -- the lists of units by seat, where those of these rows are written
  pub record AreUnits (rows : List ℕ) (lists : List (List (Option Unit))) : Type 0 where
    pub seats : length lists ≡ shape.settings.seats
    pub many : (seat : ℕ) → seat < shape.settings.seats →
        length (slice_index_or lists seat []) ≡ length (log_of logs seat) + 1
    pub reads : (seat place : ℕ) → seat < shape.settings.seats →
        slice_index_or (slice_index_or lists seat []) place None
        ≡ after_all (row_place shape words seat) (λ row. Some (Row row)) place (length (log_of logs seat) + 1) rows None

  -- the columns, where their rows are written
  pub record AreWritten (columns : Columns) : Type 0 where
    pub bases : (place : ℕ) → slice_index_or columns.bases.items place None
        ≡ after_all (λ row. Some row) (base_in shape words) place (count_of shape BucketRows) columns.rows.items None
    pub bases_rows : length columns.bases.items ≡ count_of shape BucketRows
    pub next_rows : length columns.next.items ≡ count_of shape BucketRows
    pub next : (place : ℕ) → slice_index_or columns.next.items place None
        ≡ after_all (base_in shape words) (λ row. Some row) place (count_of shape BucketRows) columns.rows.items None
    pub callers_rows : length columns.callers.items ≡ count_of shape BucketRows
    pub callers : (place seat : ℕ) → slice_index_or (slice_index_or columns.callers.items place []) seat false
        ≡ after_all (λ row. Some row) (λ row. is_caller shape words (row ∷ []) seat) place
        (count_of shape BucketRows) columns.rows.items false
    pub units : AreUnits columns.rows.items (map (λ list. list.items) columns.units.items)

  -- what is found
  pub record IsFound (found : Found) : Type 0 where
    pub many : length found.versions.items ≡ length version_rows
    pub made : (at : ℕ) (version : Version) → slice_get found.versions.items at ≡ Some version →
        IsMade shape words (slice_index_or version_rows at 0) (slice_index_or version_leaves at []) version
    pub units : (seat place : ℕ) → seat < shape.settings.seats →
        slice_index_or (slice_index_or (map (λ list. list.items) found.units.items) seat []) place None
        ≡ unit_at shape words exchanged_rows found.versions.items (log_of logs seat) seat place
    pub bases : (place : ℕ) → slice_index_or found.bases.items place None
        ≡ after_all (λ row. Some row) (base_in shape words) place (count_of shape BucketRows) exchanged_rows None
    pub next_rows : length found.next.items ≡ count_of shape BucketRows
    pub next : (place : ℕ) → slice_index_or found.next.items place None
        ≡ after_all (base_in shape words) (λ row. Some row) place (count_of shape BucketRows) exchanged_rows None
    pub callers_rows : length found.callers.items ≡ count_of shape BucketRows
    pub callers : (place seat : ℕ) → slice_index_or (slice_index_or found.callers.items place []) seat false
        ≡ after_all (λ row. Some row) (λ row. is_caller shape words (row ∷ []) seat) place
        (count_of shape BucketRows) exchanged_rows false

  -- and how the turns begin
  pub record IsBegun (progress : Progress) : Type 0 where
    pub latest : progress.latest ≡ 1
    pub placed_rows : length progress.placed.items ≡ count_of shape BucketRows
    pub placed : (place : ℕ) → slice_index_or progress.placed.items place false
        ≡ after_all (λ row. Some row) (λ row. true) place (count_of shape BucketRows)
        (firsts_in shape words (slice_index_or version_leaves 0 [])) false
    pub looks_rows : length progress.looks.items ≡ count_of shape BucketRows
    pub looks : (place : ℕ) → place < count_of shape BucketRows →
        slice_index_or progress.looks.items place 0 ≡ looks_in (flat_map (λ log. log) logs) place
    pub aside : progress.aside.items ≡ filter (λ row. is_free shape words (row ∷ [])) exchanged_rows
