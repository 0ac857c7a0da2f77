-- The texts that the program reads by itself, as definitions on the whole text: numbers in a range, and four numbers
-- with commas between.
use Rattle.std.specs.Prelude.{◌≤◌, ◌==◌, ℕ, nat_lt, Bool, ◌&&◌, not, List, [], ◌∷◌, length, Option, Some, None}
use Rattle.std.specs.Prelude.{if◌then◌else◌}
use Rattle.std.specs.List.{slice_split}
use Rattle.std.specs.Str.{all_ascii_digits}
use Rattle.std.specs.Str.Parse.{digits_value}
use Rattle.clap.specs.Walk.{Text}
use Rattle.step_counts.specs.declared.rows.SeatRows.{SeatRows}
use Rattle.line_fields.specs.Reading.{◌>>=◌}

-- a number is at most another
abbrev pub at_most : ℕ → ℕ → Bool
at_most most n = not (nat_lt most n)

-- one to ten decimal digits
abbrev pub is_number : Text → Bool
is_number text = all_ascii_digits text && nat_lt 0 (length text) && at_most 10 (length text)

-- the number that one to ten digits write, where it is in the range
abbrev pub number_between : (least most : ℕ) → Text → Option ℕ
number_between least most text =
    if is_number text && at_most (digits_value 10 text) least && at_most most (digits_value 10 text)
    then Some (digits_value 10 text) else None

-- the parts of a text, between which a character stands
abbrev pub parts_at : (character : ℕ) → Text → List Text
parts_at character text = slice_split (λ b. b == character) text

abbrev pub comma : ℕ
comma = 44

-- ---- rows

-- the most op rows, bucket rows or bucket words of a seat, and the most directory rows
abbrev pub most_rows : ℕ
most_rows = 100000

abbrev pub most_directory_rows : ℕ
most_directory_rows = 5000

-- op rows, bucket rows, bucket words and directory rows
abbrev pub rows_in : List Text → Option SeatRows
rows_in (ops ∷ buckets ∷ words ∷ directories ∷ []) = do
  ops ← number_between 0 most_rows ops
  buckets ← number_between 0 most_rows buckets
  words ← number_between 0 most_rows words
  directories ← number_between 0 most_directory_rows directories
  Some (record { op_rows = ops; bucket_rows = buckets; bucket_words = words; directory_rows = directories })
rows_in _ = None

-- the rows that a text asks for: four numbers with commas between
abbrev pub rows_of : Text → Option SeatRows
rows_of text = rows_in (parts_at comma text)

-- rows that a text can ask for
pub record AreRowsInRange (rows : SeatRows) : Type 0 where
  pub op_rows : rows.op_rows ≤ most_rows
  pub bucket_rows : rows.bucket_rows ≤ most_rows
  pub bucket_words : rows.bucket_words ≤ most_rows
  pub directory_rows : rows.directory_rows ≤ most_directory_rows
