-- The one order of the calls of a table, by its shape, its closed words and the records alone. It knows no moments: a
-- unit of calls waits for the rows that it was made from, and for what its callers had seen.
-- Source: this project's own.
use Rattle.std.specs.Prelude.{ℕ, zero, suc, ◌+◌, ◌-◌, ◌==◌, nat_lt, Bool, true, false, not, ◌&&◌, if◌then◌else◌, List, [], ◌∷◌, ◌++◌, map, length, take, drop, Option, Some, None, option_to_list, slice_get, flat_map, filter, filter_map, find, position}
use Rattle.std.specs.Option.{option_map_or}
use Rattle.std.specs.List.{list_any, list_all, range_with_len}
use Rattle.plain_map.specs.declared.records.Record.{Record}
use Rattle.plain_map.specs.declared.records.Pending.{Pending}
use Rattle.word_rows.specs.Shape.{Shape}
use Rattle.plain_map.specs.History.{Placed, answered, pending, seat_of, number_of, seen_of}
use Rattle.plain_map.specs.Calls.{is_update}
use Rattle.table_model.specs.Reading.{bucket_row, directory_row, applied_at, is_among, directory_rows, bucket_rows, is_exchanged, first_row, leaves_new_in}

-- what is placed at once
pub data Piece : Type 0 where
  -- a bucket row that was published by an exchange of a bucket word
  ByBucketRow : (row : ℕ) → Piece
  -- a directory row, with its new leaves
  ByDirectoryRow : (row : ℕ) → Piece
  -- an answered lookup
  ByLookup : (answered_lookup : Record) → Piece

-- a closed table: its words, all answered calls, and the calls that had begun
pub record Closing : Type 0 where
  pub words : List ℕ
  pub records : List Record
  pub begun : List Pending

-- the calls that there are
abbrev pub calls_of : Closing → List Placed
calls_of closing = map answered closing.records ++ map pending closing.begun

-- the call of a seat with a number
abbrev pub is_call : (seat number : ℕ) → Placed → Bool
is_call seat number placed = (seat_of placed == seat) && (number_of placed == number)

-- the lookups among the records
abbrev pub lookups_of : Closing → List Record
lookups_of closing = filter (λ r. not (is_update r.call)) closing.records

-- the update of the seat that is new in a row, beside the row that it was made from: its number is above the one there
abbrev pub number_beside : Shape → List ℕ → (seat row : ℕ) → Option ℕ → Option ℕ
number_beside shape words seat row None = None
number_beside shape words seat row (Some base) =
    if nat_lt (applied_at shape words base seat) (applied_at shape words row seat)
    then Some (applied_at shape words row seat) else None

abbrev pub new_number : Shape → List ℕ → (seat row : ℕ) → Option ℕ
new_number shape words seat row = number_beside shape words seat row (bucket_row shape words row).base

-- the first rows of the new leaves of a directory row
abbrev pub first_rows : Shape → List ℕ → (row : ℕ) → List ℕ
first_rows shape words row = filter_map (first_row shape words) (leaves_new_in shape words row)

-- the seat's update that is new in one of these rows. One number may be new in several new leaves of one directory row,
-- and stands once
abbrev pub new_in_rows : Shape → List ℕ → List ℕ → (seat : ℕ) → Option ℕ
new_in_rows shape words [] seat = None
new_in_rows shape words (row ∷ rows) seat =
    option_map_or Some (new_number shape words seat row) (new_in_rows shape words rows seat)

-- the calls of these updates, in the order of the seats
abbrev pub updates_in_rows : Shape → Closing → List ℕ → List Placed
updates_in_rows shape closing rows =
    flat_map
    (λ seat. option_map_or (λ number. option_to_list (find (is_call seat number) (calls_of closing)))
    (new_in_rows shape closing.words rows seat) [])
    (range_with_len 0 shape.settings.seats)

-- the calls of a piece
abbrev pub calls_in : Shape → Closing → Piece → List Placed
calls_in shape closing (ByBucketRow row) = updates_in_rows shape closing (row ∷ [])
calls_in shape closing (ByDirectoryRow row) = updates_in_rows shape closing (first_rows shape closing.words row)
calls_in shape closing (ByLookup r) = answered r ∷ []

-- a directory row other than the first
abbrev pub is_later : Shape → List ℕ → (row : ℕ) → Bool
is_later shape words row = option_map_or (λ _. true) (directory_row shape words row).base false

-- all pieces of a closed table
abbrev pub pieces_of : Shape → Closing → List Piece
pieces_of shape closing =
    map ByBucketRow (filter (is_exchanged shape closing.words) (bucket_rows shape closing.words))
    ++ map ByDirectoryRow (filter (is_later shape closing.words) (directory_rows shape closing.words))
    ++ map ByLookup (lookups_of closing)

-- how far the order is: the bucket rows, the directory rows and the calls that are placed, and the pieces that are left
pub record Placing : Type 0 where
  pub rows : List ℕ
  pub directories : List ℕ
  pub order : List Placed
  pub left : List Piece

-- the rows of the opening are placed at the start: those that were made from none
abbrev pub start_of : Shape → Closing → Placing
start_of shape closing = record {
  rows = filter (λ row. option_map_or (λ _. false) (bucket_row shape closing.words row).base true)
      (bucket_rows shape closing.words);
  directories = filter (λ row. not (is_later shape closing.words row)) (directory_rows shape closing.words);
  order = [];
  left = pieces_of shape closing;
}

-- a call of the seat with the number is placed
abbrev pub is_placed : List Placed → (seat number : ℕ) → Bool
is_placed order seat number = list_any (is_call seat number) order

-- the first so many calls of a seat are placed
abbrev pub are_placed : List Placed → (many seat : ℕ) → Bool
are_placed order many seat = list_all (is_placed order seat) (range_with_len 1 many)

-- all earlier calls of its seat, and all calls that it had seen, are placed
abbrev pub is_next : Shape → List Placed → Placed → Bool
is_next shape order placed =
    are_placed order (number_of placed - 1) (seat_of placed)
    && list_all (λ seat. are_placed order (seen_of placed seat) seat) (range_with_len 0 shape.settings.seats)

-- a row, if there is one, is placed, and so are all answered lookups of it
abbrev pub is_done : Closing → Placing → Option ℕ → Bool
is_done closing placing None = true
is_done closing placing (Some row) =
    is_among placing.rows row
    && list_all (λ r. is_placed placing.order r.seat r.number) (filter (λ r. r.place == row) (lookups_of closing))

-- what the piece was made from is placed
abbrev pub has_base : Shape → Closing → Placing → Piece → Bool
has_base shape closing placing (ByBucketRow row) = is_done closing placing (bucket_row shape closing.words row).base
has_base shape closing placing (ByDirectoryRow row) =
    option_map_or (is_among placing.directories) (directory_row shape closing.words row).base true
    && list_all (λ first. is_done closing placing (bucket_row shape closing.words first).base)
    (first_rows shape closing.words row)
has_base shape closing placing (ByLookup r) = is_among placing.rows r.place

-- the piece is ready
abbrev pub is_ready : Shape → Closing → Placing → Piece → Bool
is_ready shape closing placing piece =
    has_base shape closing placing piece && list_all (is_next shape placing.order) (calls_in shape closing piece)

-- the seat of the first of these calls, and 0 where there is none: a piece without calls comes before all others
abbrev pub rank_of_calls : List Placed → ℕ
rank_of_calls [] = 0
rank_of_calls (placed ∷ later) = suc (seat_of placed)

-- at this place in the list stands a ready piece of this rank
abbrev pub has_rank : Shape → Closing → Placing → (rank : ℕ) → Piece → Bool
has_rank shape closing placing rank piece =
    (rank_of_calls (calls_in shape closing piece) == rank) && is_ready shape closing placing piece

-- the place of the piece that comes next: the first ready one of the smallest rank from this one on, among so many
-- ranks
abbrev pub choice_from : Shape → Closing → Placing → (rank ranks : ℕ) → Option ℕ
choice_from shape closing placing rank zero = None
choice_from shape closing placing rank (suc ranks) =
    option_map_or Some (position (has_rank shape closing placing rank) placing.left)
    (choice_from shape closing placing (suc rank) ranks)

abbrev pub choice : Shape → Closing → Placing → Option ℕ
choice shape closing placing = choice_from shape closing placing 0 (shape.settings.seats + 1)

-- the bucket rows that come with a piece
abbrev pub rows_with : Shape → Closing → Piece → List ℕ
rows_with shape closing (ByBucketRow row) = row ∷ []
rows_with shape closing (ByDirectoryRow row) = first_rows shape closing.words row
rows_with shape closing (ByLookup r) = []

-- and the directory rows
abbrev pub directories_with : Piece → List ℕ
directories_with (ByBucketRow row) = []
directories_with (ByDirectoryRow row) = row ∷ []
directories_with (ByLookup r) = []

-- with this piece placed, which stood at this place among those left
abbrev pub place_piece : Shape → Closing → Placing → (at : ℕ) → Option Piece → Placing
place_piece shape closing placing at None = placing
place_piece shape closing placing at (Some piece) = record {
  rows = placing.rows ++ rows_with shape closing piece;
  directories = placing.directories ++ directories_with piece;
  order = placing.order ++ calls_in shape closing piece;
  left = take at placing.left ++ drop (at + 1) placing.left;
}

abbrev pub place_chosen : Shape → Closing → Placing → Option ℕ → Placing
place_chosen shape closing placing None = placing
place_chosen shape closing placing (Some at) = place_piece shape closing placing at (slice_get placing.left at)

-- with the next piece placed, and so on: at most so often
abbrev pub place_all : Shape → Closing → (most : ℕ) → Placing → Placing
place_all shape closing zero placing = placing
place_all shape closing (suc most) placing =
    place_all shape closing most (place_chosen shape closing placing (choice shape closing placing))

-- all that can be placed is placed
unfoldable pub placing_of : Shape → Closing → Placing
placing_of shape closing = place_all shape closing (length (pieces_of shape closing)) (start_of shape closing)

-- the printed order
abbrev pub order_of : Shape → Closing → List Placed
order_of shape closing = (placing_of shape closing).order

-- the pending updates that took effect: those whose number is the applied number of their seat in a published row
abbrev pub took_effect : Shape → List ℕ → Pending → Bool
took_effect shape words p =
    is_update p.call && list_any (λ row. applied_at shape words row p.seat == p.number) (bucket_rows shape words)

abbrev pub effects_of : Shape → Closing → List Pending
effects_of shape closing = filter (took_effect shape closing.words) closing.begun
