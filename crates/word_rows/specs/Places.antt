-- Which word of a table is what. All words stand in one list, in the order of the variants of an address.
use Rattle.std.specs.Prelude.{ℕ, ◌+◌, ◌*◌, ◌<◌}
use Rattle.step_counts.specs.declared.TheConstants.{OP_WORDS}
use Rattle.step_counts.specs.StepCounts.{bucket_row_words, directory_row_words}
use Rattle.plain_map.specs.declared.full.FullKind.TheVariants.{OpRows, BucketRows, BucketWords, DirRows}
use Rattle.word_rows.specs.Shape.{Shape, count_of}
pub use Rattle.word_rows.specs.declared.addresses.Address.{Address}
pub use Rattle.word_rows.specs.declared.addresses.Address.TheVariants.{Root, Announcement, Done, BucketWord, OpWord, BucketRowWord, DirectoryWord}

-- the words that there are
abbrev pub IsAddress : Shape → Address → Type 0
IsAddress shape Root = Unit {0}
IsAddress shape (Announcement seat) = seat < shape.settings.seats
IsAddress shape (Done seat) = seat < shape.settings.seats
IsAddress shape (BucketWord bucket) = bucket < count_of shape BucketWords
IsAddress shape (OpWord row i) = (row < count_of shape OpRows) × (i < OP_WORDS)
IsAddress shape (BucketRowWord row i) = (row < count_of shape BucketRows) × (i < bucket_row_words shape.settings)
IsAddress shape (DirectoryWord row i) = (row < count_of shape DirRows) × (i < directory_row_words shape.settings)

-- the first word of each part that follows the root, the announcements and the done words
abbrev pub bucket_words_start : Shape → ℕ
bucket_words_start shape = 1 + 2 * shape.settings.seats

-- of the op rows
abbrev pub op_rows_start : Shape → ℕ
op_rows_start shape = bucket_words_start shape + count_of shape BucketWords

-- of the bucket rows
abbrev pub bucket_rows_start : Shape → ℕ
bucket_rows_start shape = op_rows_start shape + count_of shape OpRows * OP_WORDS

-- of the directory rows
abbrev pub directory_rows_start : Shape → ℕ
directory_rows_start shape = bucket_rows_start shape + count_of shape BucketRows * bucket_row_words shape.settings

-- how many words there are
abbrev pub word_count : Shape → ℕ
word_count shape = directory_rows_start shape + count_of shape DirRows * directory_row_words shape.settings

-- the number of the word at an address, from 0
abbrev pub place : Shape → Address → ℕ
place shape Root = 0
place shape (Announcement seat) = 1 + seat
place shape (Done seat) = 1 + shape.settings.seats + seat
place shape (BucketWord bucket) = bucket_words_start shape + bucket
place shape (OpWord row i) = op_rows_start shape + (row * OP_WORDS + i)
place shape (BucketRowWord row i) = bucket_rows_start shape + (row * bucket_row_words shape.settings + i)
place shape (DirectoryWord row i) = directory_rows_start shape + (row * directory_row_words shape.settings + i)
