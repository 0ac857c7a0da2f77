-- The words that a seat stores, with their addresses.
use Rattle.std.specs.Prelude.{ℕ, suc, List, [], ◌∷◌, ◌++◌, Option, Some, slice_set, fold}
use Rattle.std.specs.Option.{option_map, option_and_then}
use Rattle.step_counts.specs.declared.rows.SeatRows.{SeatRows}
use Rattle.plain_map.specs.declared.full.FullKind.TheVariants.{BucketRows, BucketWords, DirRows}
use Rattle.word_rows.specs.Shape.{Shape}
use Rattle.word_rows.specs.declared.addresses.Address.{Address}
use Rattle.word_rows.specs.declared.addresses.Address.TheVariants.{BucketWord, BucketRowWord, DirectoryWord}
use Rattle.word_rows.specs.Places.{place}
use Rattle.word_rows.specs.BucketWords.{words_of_bucket}
use Rattle.word_rows.specs.DirectoryWords.{words_of_directory}
use Rattle.bucket_states.specs.declared.ops.Op.{Op}
use Rattle.bucket_states.specs.States.{BucketState, row_of_state}
use Rattle.bucket_states.specs.Change.{change}
pub use Rattle.table_model.specs.declared.events.Put.{Put}
use Rattle.table_model.specs.Setup.{Setup, settings_of, rules_of, next_number}
use Rattle.table_model.specs.Directories.{DirectoryState}
use Rattle.table_model.specs.Leaves.{NewLeaf}
use Rattle.table_model.specs.DirectoryChange.{LoadedBucket, loaded_of, change_leaves, with_leaves}
use Rattle.table_model.specs.Phases.{BucketTry, DirectoryTry}

-- the words of a row, from its word i on
abbrev pub row_puts : (ℕ → Address) → (i : ℕ) → List ℕ → List Put
row_puts at i [] = []
row_puts at i (word ∷ words) = record { address = at i; word = word } ∷ row_puts at (suc i) words

-- all of these stores, one after the other
abbrev pub with_puts : Shape → List ℕ → List Put → List ℕ
with_puts shape words puts = fold (λ so_far put. slice_set so_far (place shape put.address) put.word) words puts

-- the words of the row of a bucket that was made from the row with this number
abbrev pub bucket_words : Setup → (base : Option ℕ) → BucketState → List ℕ
bucket_words setup base bucket = words_of_bucket (settings_of setup) (row_of_state base bucket)

-- the words of the row of a directory
abbrev pub directory_words : (base : Option ℕ) → DirectoryState → List ℕ
directory_words base directory =
    words_of_directory (record { depth = directory.depth; base = base; entries = directory.entries })

-- the row of the bucket that a leaf comes from
abbrev pub base_of_leaf : List LoadedBucket → NewLeaf → Option ℕ
base_of_leaf loaded leaf = option_and_then (λ from. option_map (λ l. l.row) (loaded_of loaded from)) leaf.from

-- the word and the row of each leaf, in the order of the leaves; the first has these numbers
abbrev pub leaf_puts : Setup → (NewLeaf → Option ℕ) → (bucket row : ℕ) → List NewLeaf → List Put
leaf_puts setup base bucket row [] = []
leaf_puts setup base bucket row (leaf ∷ leaves) =
    record { address = BucketWord bucket; word = row }
    ∷ row_puts (BucketRowWord row) 0 (bucket_words setup (base leaf) leaf.bucket)
    ++ leaf_puts setup base (suc bucket) (suc row) leaves

-- the bucket that a bucket try makes
abbrev pub made_bucket : Setup → BucketTry → List (Option Op) → BucketState
made_bucket setup attempt found = change (rules_of setup) found attempt.state

-- the leaves and the directory that a directory try makes
abbrev pub made_leaves : Setup → DirectoryTry → List (Option Op) → List LoadedBucket → List NewLeaf
made_leaves setup attempt found loaded = change_leaves (rules_of setup) attempt.directory loaded found

abbrev pub made_directory : Setup → (seat : ℕ) → SeatRows → DirectoryTry → List (Option Op) → List LoadedBucket →
    DirectoryState
made_directory setup seat used attempt found loaded =
    with_leaves (next_number setup seat BucketWords used) (made_leaves setup attempt found loaded) attempt.directory

-- all that a directory try stores: its leaves, and then its directory row
unfoldable pub directory_puts : Setup → (seat : ℕ) → SeatRows → DirectoryTry → List (Option Op) → List LoadedBucket →
    List Put
directory_puts setup seat used attempt found loaded =
    leaf_puts setup (base_of_leaf loaded) (next_number setup seat BucketWords used)
    (next_number setup seat BucketRows used)
    (made_leaves setup attempt found loaded)
    ++ row_puts (DirectoryWord (next_number setup seat DirRows used)) 0
    (directory_words (Some attempt.root) (made_directory setup seat used attempt found loaded))
