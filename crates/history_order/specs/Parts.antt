-- The unit of a call, what a piece was made from, and what is marked of a placing.
use Rattle.std.specs.Prelude.{◌≡◌, ℕ, ◌==◌, ◌&&◌, Bool, not, List, [], ◌∷◌, Option, None, option_to_list, filter_map, find}
use Rattle.std.specs.List.{list_any, count_by}
use Rattle.plain_map.specs.declared.records.Record.{Record}
use Rattle.table_model.specs.Setup.{Setup}
use Rattle.table_model.specs.Reading.{bucket_row, directory_row, is_among}
use Rattle.table_model.specs.Order.{Closing, Piece, ByBucketRow, ByDirectoryRow, ByLookup, Placing, is_call, calls_in, first_rows, is_placed, lookups_of, pieces_of}

module _ (setup : Setup) (closing : Closing) where
  -- the piece with the seat's call of the number
  abbrev pub unit_of : ℕ → ℕ → Option Piece
  unit_of seat n = find (λ x. list_any (is_call seat n) (calls_in setup.shape closing x))
      (pieces_of setup.shape closing)

  -- the row that a bucket row was made from
  abbrev pub base_of_row : ℕ → Option ℕ
  base_of_row row = (bucket_row setup.shape closing.words row).base

  -- the rows that a piece was made from; a lookup waits for its row
  abbrev pub bases_of : Piece → List ℕ
  bases_of (ByBucketRow row) = option_to_list (base_of_row row)
  bases_of (ByDirectoryRow row) = filter_map base_of_row (first_rows setup.shape closing.words row)
  bases_of (ByLookup r) = r.place ∷ []

  -- the directory row that it was made from
  abbrev pub version_base : Piece → Option ℕ
  version_base (ByBucketRow row) = None
  version_base (ByDirectoryRow row) = (directory_row setup.shape closing.words row).base
  version_base (ByLookup r) = None

  -- a lookup of the row that is not placed
  abbrev pub is_open : Placing → (row : ℕ) → Record → Bool
  is_open p row r = (r.place == row) && not (is_placed p.order r.seat r.number)

  -- how many there are
  abbrev pub open_looks : Placing → (row : ℕ) → ℕ
  open_looks p row = count_by (is_open p row) (lookups_of closing)

  -- the marks tell the placing
  pub record Marks (placed there : ℕ → Bool) (looks : ℕ → ℕ) (p : Placing) : Type 0 where
    pub rows : (row : ℕ) → placed row ≡ is_among p.rows row
    pub versions : (row : ℕ) → there row ≡ is_among p.directories row
    pub left : (row : ℕ) → looks row ≡ open_looks p row
