-- What the words of a table say by themselves: its rows, and which of them were ever published. The shape of the table
-- is enough to read them; only where a key has its bucket depends on the hashing.
use Rattle.std.specs.Prelude.{ℕ, zero, suc, ◌+◌, ◌^◌, ◌==◌, Bool, false, not, if◌then◌else◌, List, [], ◌∷◌, reverse, take, drop, Option, Some, None, slice_index, flat_map, filter, find}
use Rattle.std.specs.Option.{option_map_or}
use Rattle.std.specs.List.{list_any}
use Rattle.step_counts.specs.declared.TheConstants.{OP_WORDS, DIRECTORY_HEAD_WORDS}
use Rattle.step_counts.specs.StepCounts.{bucket_row_words}
use Rattle.plain_map.specs.declared.full.FullKind.TheVariants.{BucketRows, DirRows}
use Rattle.plain_map.specs.declared.keys.Key.{Key}
use Rattle.plain_map.specs.Rows.{BucketContent, DirectoryContent}
use Rattle.word_rows.specs.Shape.{Shape, count_of}
use Rattle.word_rows.specs.declared.addresses.Address.TheVariants.{Root, BucketWord, OpWord, BucketRowWord, DirectoryWord}
use Rattle.word_rows.specs.Places.{place}
use Rattle.word_rows.specs.BucketWords.{bucket_of_words}
use Rattle.word_rows.specs.DirectoryWords.{directory_of_words}
use Rattle.bucket_states.specs.States.{BucketState, state_in_row}
use Rattle.table_model.specs.Setup.{Setup, rules_of}
use Rattle.table_model.specs.Directories.{DirectoryState, directory_in_row, bucket_of}
use Rattle.table_model.specs.Worlds.{word_at}

-- so many words from a word on
abbrev pub words_from : List ℕ → (start many : ℕ) → List ℕ
words_from words start many = take many (drop start words)

-- the words of the bucket row with this number
abbrev pub bucket_spelling : Shape → List ℕ → (row : ℕ) → List ℕ
bucket_spelling shape words row =
    words_from words (place shape (BucketRowWord row 0)) (bucket_row_words shape.settings)

-- the words of the directory row with this number, as many as its depth says
abbrev pub directory_spelling : Shape → List ℕ → (row : ℕ) → List ℕ
directory_spelling shape words row =
    words_from words (place shape (DirectoryWord row 0))
    (DIRECTORY_HEAD_WORDS + 2 ^ word_at shape words (DirectoryWord row 0))

-- the words of the op row with this number
abbrev pub op_spelling : Shape → List ℕ → (row : ℕ) → List ℕ
op_spelling shape words row = words_from words (place shape (OpWord row 0)) OP_WORDS

-- the bucket row with this number, and the directory row
abbrev pub bucket_row : Shape → List ℕ → (row : ℕ) → BucketContent
bucket_row shape words row = bucket_of_words shape.settings (bucket_spelling shape words row)

abbrev pub directory_row : Shape → List ℕ → (row : ℕ) → DirectoryContent
directory_row shape words row = directory_of_words (directory_spelling shape words row)

-- what they say
abbrev pub bucket_at : Shape → List ℕ → (row : ℕ) → BucketState
bucket_at shape words row = state_in_row (bucket_row shape words row)

abbrev pub directory_at : Shape → List ℕ → (row : ℕ) → DirectoryState
directory_at shape words row = directory_in_row (directory_row shape words row)

-- the number applied last of a seat in a bucket row
abbrev pub applied_at : Shape → List ℕ → (row seat : ℕ) → ℕ
applied_at shape words row seat = slice_index (bucket_at shape words row).applied seat

-- the number is among these
abbrev pub is_among : List ℕ → ℕ → Bool
is_among numbers number = list_any (λ other. other == number) numbers

-- the numbers, each once: where it stands last
abbrev pub each_once : List ℕ → List ℕ
each_once [] = []
each_once (number ∷ numbers) = if is_among numbers number then each_once numbers else number ∷ each_once numbers

-- a row, the row that it was made from, and again and again: at most so many
abbrev pub line : (ℕ → Option ℕ) → (most : ℕ) → Option ℕ → List ℕ
line base zero row = []
line base (suc most) None = []
line base (suc most) (Some row) = row ∷ line base most (base row)

-- a bucket row and all that it comes from, the latest first. No row comes from itself, so there are at most all
abbrev pub bucket_line : Shape → List ℕ → Option ℕ → List ℕ
bucket_line shape words row = line (λ r. (bucket_row shape words r).base) (count_of shape BucketRows) row

abbrev pub directory_line : Shape → List ℕ → Option ℕ → List ℕ
directory_line shape words row = line (λ r. (directory_row shape words r).base) (count_of shape DirRows) row

-- the directory in use, and its row
abbrev pub root_of : Shape → List ℕ → ℕ
root_of shape words = word_at shape words Root

-- the row in use of a bucket
abbrev pub row_of : Shape → List ℕ → (bucket : ℕ) → ℕ
row_of shape words bucket = word_at shape words (BucketWord bucket)

-- the published directory rows: the root's row and all that it comes from, the latest first
abbrev pub directory_rows : Shape → List ℕ → List ℕ
directory_rows shape words = directory_line shape words (Some (root_of shape words))

-- the buckets that a published directory row names
abbrev pub named_buckets : Shape → List ℕ → List ℕ
named_buckets shape words =
    each_once (flat_map (λ row. (directory_at shape words row).entries) (directory_rows shape words))

-- the published bucket rows: of each of these buckets the row in use and all that it comes from
abbrev pub bucket_rows : Shape → List ℕ → List ℕ
bucket_rows shape words =
    each_once (flat_map (λ bucket. bucket_line shape words (Some (row_of shape words bucket)))
    (named_buckets shape words))

-- a bucket row was published by an exchange of a bucket word exactly where the row that it was made from has its
-- depth. Else it is the first row of its bucket
abbrev pub is_exchanged : Shape → List ℕ → (row : ℕ) → Bool
is_exchanged shape words row =
    option_map_or (λ base. (bucket_row shape words base).depth == (bucket_row shape words row).depth)
    (bucket_row shape words row).base false

-- the first row of a bucket: of its row in use and all that it comes from, the first that was not exchanged
abbrev pub first_row : Shape → List ℕ → (bucket : ℕ) → Option ℕ
first_row shape words bucket =
    find (λ row. not (is_exchanged shape words row)) (bucket_line shape words (Some (row_of shape words bucket)))

-- a list up to the first that passes the test, and with it
abbrev pub up_to : (ℕ → Bool) → List ℕ → List ℕ
up_to test [] = []
up_to test (number ∷ numbers) = if test number then number ∷ [] else number ∷ up_to test numbers

-- the rows of a bucket, the latest first: its row in use and all that it comes from, up to the first row of the bucket
abbrev pub rows_of_bucket : Shape → List ℕ → (bucket : ℕ) → List ℕ
rows_of_bucket shape words bucket =
    up_to (λ row. not (is_exchanged shape words row)) (bucket_line shape words (Some (row_of shape words bucket)))

-- the new leaves of a directory row: the buckets that it names and that the row that it was made from does not name
abbrev pub leaves_beside : Shape → List ℕ → (row : ℕ) → Option ℕ → List ℕ
leaves_beside shape words row None = []
leaves_beside shape words row (Some base) =
    filter (λ bucket. not (is_among (directory_at shape words base).entries bucket))
    (each_once (directory_at shape words row).entries)

abbrev pub leaves_new_in : Shape → List ℕ → (row : ℕ) → List ℕ
leaves_new_in shape words row = leaves_beside shape words row (directory_row shape words row).base

-- the numbers, each once: where it stands first
abbrev pub each_once_first : List ℕ → List ℕ
each_once_first numbers = reverse (each_once (reverse numbers))

-- the bucket of a key by a directory row
abbrev pub bucket_by : Setup → List ℕ → (row : ℕ) → Key → ℕ
bucket_by setup words row key = bucket_of (rules_of setup) (directory_at setup.shape words row) key

-- the current row of a key: the row in use of its bucket, by the directory in use
abbrev pub current_row : Setup → List ℕ → Key → ℕ
current_row setup words key = row_of setup.shape words (bucket_by setup words (root_of setup.shape words) key)
