-- What a table is made from, and the numbers that belong to each of its seats.
-- Rows and bucket words are numbered from 0; the opening has the first numbers, and then each seat its own range.
use Rattle.std.specs.Prelude.{◌≡◌, ℕ, ◌+◌, ◌*◌, ◌^◌, ◌<◌, ◌≤◌, List, length, take, sum_by, slice_index_or}
use Rattle.step_counts.specs.declared.rows.SeatRows.{SeatRows}
use Rattle.step_counts.specs.declared.settings.Settings.{Settings}
use Rattle.plain_map.specs.declared.full.FullKind.{FullKind}
use Rattle.plain_map.specs.declared.full.FullKind.TheVariants.{OpRows, BucketRows, BucketWords, DirRows}
use Rattle.plain_map.specs.Room.{no_rows}
use Rattle.plain_map.specs.Updates.{number_limit}

-- a record has 32 bits for its number: the limit of each table that is run
abbrev pub record_limit : ℕ
record_limit = 2 ^ 32

-- the settings; for each seat how many numbers its four ranges have; and the limit: every seat's ranges have fewer
-- numbers, and its calls have numbers below it
pub record Shape : Type 0 where
  pub settings : Settings
  pub ranges : List SeatRows
  pub limit : ℕ

-- one of the four numbers
abbrev pub of_kind : FullKind → SeatRows → ℕ
of_kind OpRows rows = rows.op_rows
of_kind BucketRows rows = rows.bucket_rows
of_kind BucketWords rows = rows.bucket_words
of_kind DirRows rows = rows.directory_rows

-- four numbers, by what each is
abbrev pub by_kind : (FullKind → ℕ) → SeatRows
by_kind f = record {
  op_rows = f OpRows;
  bucket_rows = f BucketRows;
  bucket_words = f BucketWords;
  directory_rows = f DirRows;
}

-- the opening has a bucket word and a bucket row for each place of a directory, and one directory row
abbrev pub opening_rows : Settings → SeatRows
opening_rows settings = record {
  op_rows = 0;
  bucket_rows = 2 ^ settings.depth;
  bucket_words = 2 ^ settings.depth;
  directory_rows = 1;
}

-- how many numbers a seat's ranges have
abbrev pub sizes_of : Shape → (seat : ℕ) → SeatRows
sizes_of shape seat = slice_index_or shape.ranges seat no_rows

-- how many numbers of a kind the opening and these ranges have
unfoldable pub number_after : Settings → List SeatRows → FullKind → ℕ
number_after settings ranges kind = of_kind kind (opening_rows settings) + sum_by (of_kind kind) ranges

-- the first number of a seat's range: it comes after the opening's and those of the seats before
abbrev pub first_number : Shape → (seat : ℕ) → FullKind → ℕ
first_number shape seat = number_after shape.settings (take seat shape.ranges)

-- the first number of each of a seat's ranges
abbrev pub first_of : Shape → (seat : ℕ) → SeatRows
first_of shape seat = by_kind (first_number shape seat)

-- how many numbers of a kind there are
abbrev pub count_of : Shape → FullKind → ℕ
count_of shape = number_after shape.settings shape.ranges

-- a number belongs to a seat
pub record Owns (shape : Shape) (seat : ℕ) (kind : FullKind) (number : ℕ) : Type 0 where
  pub from : first_number shape seat kind ≤ number
  pub below : number < first_number shape seat kind + of_kind kind (sizes_of shape seat)

-- each of the four numbers is below a limit
pub record AreBelow (limit : ℕ) (rows : SeatRows) : Type 0 where
  pub op_rows : rows.op_rows < limit
  pub bucket_rows : rows.bucket_rows < limit
  pub bucket_words : rows.bucket_words < limit
  pub directory_rows : rows.directory_rows < limit

-- there are ranges for each seat, and few numbers
pub record IsShape (shape : Shape) : Type 0 where
  pub each_seat : length shape.ranges ≡ shape.settings.seats
  pub limited : shape.limit ≤ number_limit
  pub few : AreBelow (16 * shape.limit) (by_kind (count_of shape))
