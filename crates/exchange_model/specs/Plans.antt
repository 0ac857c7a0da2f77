-- What a table is opened with. Its numbers are its own: no settings of another table limit them.
use Rattle.std.specs.Prelude.{ℕ, ◌+◌, ◌*◌, ◌^◌, ◌≤◌, List, [], ◌∷◌, ◌++◌}
use Rattle.hash_bits.specs.declared.hashing.Hashing.{Hashing}
use Rattle.plain_map.specs.declared.keys.Key.{Key}
use Rattle.plain_map.specs.declared.rules.Rules.{Rules}
use Rattle.plain_map.specs.PlainObject.{class_of}

-- its sizes: how many seats, and how many readers that can hold a row; the most items of a bucket; and how many bits of
-- the hash tell a key's class
pub record Sizes : Type 0 where
  pub seats : ℕ
  pub readers : ℕ
  pub items : ℕ
  pub depth : ℕ

-- its sizes; the hashing; how many rows each seat has beside those in the buckets; and how many bits of a bucket word
-- tell a row
pub record Plan : Type 0 where
  pub settings : Sizes
  pub hashing : Hashing
  pub spare : ℕ
  pub row_bits : ℕ

-- ---- limits

abbrev pub MOST_SEATS : ℕ
MOST_SEATS = 64

abbrev pub MOST_READERS : ℕ
MOST_READERS = 64

abbrev pub MOST_ITEMS : ℕ
MOST_ITEMS = 16

abbrev pub MOST_DEPTH : ℕ
MOST_DEPTH = 20

-- the bits of a bucket word that may tell a row: enough for all rows, and few enough that generations last
abbrev pub MOST_ROW_BITS : ℕ
MOST_ROW_BITS = 21

-- a seat, or a reader that can hold, asks for a row less than so many times
abbrev pub MOST_ASKINGS : ℕ
MOST_ASKINGS = 2 ^ 62

-- the numbers of a seat's announcements are below it, and one more. They come after lost tries alone
abbrev pub MOST_ANNOUNCEMENTS : ℕ
MOST_ANNOUNCEMENTS = 2 ^ 43

-- ---- what follows from them

-- what the plain map goes by
abbrev pub rules_of : Plan → Rules
rules_of plan = record { items = plan.settings.items; depth = plan.settings.depth; hashing = plan.hashing }

-- all who can hold a row: the seats, and behind them the readers that can
abbrev pub holders_of : Sizes → ℕ
holders_of s = s.seats + s.readers

-- how many buckets there are: one for each class
abbrev pub buckets_of : Sizes → ℕ
buckets_of s = 2 ^ s.depth

-- the class of a key
abbrev pub class_for : Plan → Key → ℕ
class_for plan key = class_of (rules_of plan) key

-- the bucket that has the keys of a class. A table that does not grow has one for each class, of the same number
abbrev pub leaf_of : Plan → (class : ℕ) → ℕ
leaf_of plan class = class

-- the bucket of a key
abbrev pub bucket_for : Plan → Key → ℕ
bucket_for plan key = leaf_of plan (class_for plan key)

-- the rows of the seats, which have the first numbers
abbrev pub seat_rows : Plan → ℕ
seat_rows plan = plan.settings.seats * plan.spare

-- all rows: those of the seats, and one for each bucket
abbrev pub rows_of : Plan → ℕ
rows_of plan = seat_rows plan + buckets_of plan.settings

-- the first row of a seat, and the row that a bucket is opened with
abbrev pub first_row : Plan → (seat : ℕ) → ℕ
first_row plan seat = seat * plan.spare

abbrev pub born_row : Plan → (bucket : ℕ) → ℕ
born_row plan bucket = seat_rows plan + bucket

-- a table can be opened so: a seat has a row more than others can hold, of which each holds one at most; and a bucket
-- word has room for the numbers of all rows
pub record IsPlan (plan : Plan) : Type 0 where
  pub some_seat : 1 ≤ plan.settings.seats
  pub seats : plan.settings.seats ≤ MOST_SEATS
  pub readers : plan.settings.readers ≤ MOST_READERS
  pub some_room : 1 ≤ plan.settings.items
  pub items : plan.settings.items ≤ MOST_ITEMS
  pub depth : plan.settings.depth ≤ MOST_DEPTH
  pub enough : holders_of plan.settings ≤ plan.spare
  pub rows : rows_of plan ≤ 2 ^ plan.row_bits
  pub bits : plan.row_bits ≤ MOST_ROW_BITS

-- a list with one more behind
abbrev pub more : {A : Type 0} → List A → A → List A
more xs x = xs ++ x ∷ []
