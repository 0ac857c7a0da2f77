-- The words of an opening, by its leaves and its directory, and as they are written.
use Rattle.std.specs.Prelude.{◌≡◌, ℕ, suc, ◌^◌, ◌≤◌, List, [], ◌∷◌, ◌++◌, All, None, length, replicate, slice_set}
use Rattle.hash_bits.specs.declared.hashing.Hashing.{Hashing}
use Rattle.hash_bits.specs.declared.hashing.Hashing.TheVariants.{Mix}
use Rattle.plain_map.specs.declared.keys.Pair.{Pair}
use Rattle.word_rows.specs.Shape.{Shape}
use Rattle.word_rows.specs.Places.{word_count}
use Rattle.word_rows.specs.declared.addresses.Address.TheVariants.{DirectoryWord}
use Rattle.word_rows.specs.BucketWords.{IsBucket}
use Rattle.bucket_states.specs.States.{row_of_state}
use Rattle.table_model.specs.Setup.{Setup}
use Rattle.table_model.specs.Directories.{DirectoryState}
use Rattle.table_model.specs.Leaves.{NewLeaf}
use Rattle.table_model.specs.Stores.{directory_words, leaf_puts, row_puts, with_puts}

-- a table of this shape, with this hashing and these first pairs
abbrev pub setup_at : Shape → Hashing → List Pair → Setup
setup_at shape hashing first = record { shape = shape; hashing = hashing; first = first }

-- rows are spelled by the shape alone, so one setup of the shape stands for all
abbrev pub spelling : Shape → Setup
spelling shape = setup_at shape (Mix 0) []

-- the words of a table that begins with these leaves and this directory: all else is 0
abbrev pub words_with : Shape → List NewLeaf → DirectoryState → List ℕ
words_with shape leaves directory =
    with_puts shape (replicate (word_count shape) 0)
    (leaf_puts (spelling shape) (λ _. None) 0 0 leaves ++ row_puts (DirectoryWord 0) 0 (directory_words None directory))

-- they find room in a table of the shape
pub record FitIn (shape : Shape) (leaves : List NewLeaf) (directory : DirectoryState) : Type 0 where
  pub few : length leaves ≤ 2 ^ shape.settings.depth
  pub spelled : All (λ leaf. IsBucket shape.settings (row_of_state None leaf.bucket)) leaves
  pub shallow : directory.depth ≤ shape.settings.depth
  pub long : length directory.entries ≡ 2 ^ directory.depth

-- these words with a row from this place on
abbrev pub written : List ℕ → (start : ℕ) → List ℕ → List ℕ
written words start [] = words
written words start (word ∷ row) = written (slice_set words start word) (suc start) row
