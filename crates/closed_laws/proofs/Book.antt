-- The history of a table, as its closed words tell it: the published rows by positions, each with the row that it was
-- made from.
use Rattle.std.proofs.Common.{◌≡◌, ℕ, ◌+◌, ◌<◌, ◌≤◌, ◌⊎◌, Bool, true, List, Option, Some, None}
use Rattle.plain_map.specs.declared.full.FullKind.TheVariants.{BucketRows, DirRows}
use Rattle.plain_map.specs.Rows.{DirectoryContent}
use Rattle.word_rows.specs.Shape.{count_of}
use Rattle.bucket_states.specs.States.{BucketState, row_of_state}
use Rattle.table_model.specs.Setup.{Setup}
use Rattle.table_model.specs.Directories.{DirectoryState}
use Rattle.table_model.specs.Reading.{bucket_row, directory_row, root_of, row_of}
use Rattle.list_laws.proofs.Lists.{In}

-- positions: versions 0 to dir_top, and rows 0 to top of each bucket that is named
pub record Book : Type 0 where
  pub dir_top : ℕ
  pub dir_row : ℕ → ℕ
  pub dir_at : ℕ → DirectoryState
  pub dir_base : ℕ → Option ℕ
  pub named : ℕ → Bool
  -- the version that named it first, and its depth
  pub born : ℕ → ℕ
  pub deep : ℕ → ℕ
  pub top : ℕ → ℕ
  pub row_at : ℕ → ℕ → ℕ
  pub state_at : ℕ → ℕ → BucketState
  pub base_at : ℕ → ℕ → Option ℕ

-- the row that a directory is written in
abbrev pub row_of_directory : Option ℕ → DirectoryState → DirectoryContent
row_of_directory base directory = record { depth = directory.depth; base = base; entries = directory.entries }

-- the bucket that a bucket comes from
pub record Parent (k : Book) (b v : ℕ) : Type 0 where
  pub old : ℕ
  pub named : k.named old ≡ true
  pub shallow : k.deep old < k.deep b
  pub base : k.base_at b 0 ≡ Some (k.row_at old (k.top old))
  pub led : In old (k.dir_at v).entries

-- the words tell it
pub record Written (setup : Setup) (words : List ℕ) (k : Book) : Type 0 where
  pub root_is : root_of setup.shape words ≡ k.dir_row k.dir_top
  pub word_is : (b : ℕ) → k.named b ≡ true → row_of setup.shape words b ≡ k.row_at b (k.top b)
  pub row_is : (b i : ℕ) → k.named b ≡ true → i ≤ k.top b →
      bucket_row setup.shape words (k.row_at b i) ≡ row_of_state (k.base_at b i) (k.state_at b i)
  pub dir_is : (v : ℕ) → v ≤ k.dir_top → directory_row setup.shape words (k.dir_row v) ≡ row_of_directory
      (k.dir_base v) (k.dir_at v)
  pub within : (b i : ℕ) → k.named b ≡ true → i ≤ k.top b → k.row_at b i < count_of setup.shape BucketRows
  pub once : (a b i j : ℕ) → k.named a ≡ true → k.named b ≡ true → i ≤ k.top a → j ≤ k.top b →
      k.row_at a i ≡ k.row_at b j → (a ≡ b) × (i ≡ j)
  pub dir_within : (v : ℕ) → v ≤ k.dir_top → k.dir_row v < count_of setup.shape DirRows
  pub dir_once : (u v : ℕ) → u ≤ k.dir_top → v ≤ k.dir_top → k.dir_row u ≡ k.dir_row v → u ≡ v
  pub deep_is : (b i : ℕ) → k.named b ≡ true → i ≤ k.top b → (k.state_at b i).depth ≡ k.deep b
  -- bases
  pub bases : (b i : ℕ) → k.named b ≡ true → i < k.top b → k.base_at b (i + 1) ≡ Some (k.row_at b i)
  pub opening : (b : ℕ) → k.named b ≡ true → k.born b ≡ 0 → k.base_at b 0 ≡ None
  pub parent : (b v : ℕ) → k.named b ≡ true → k.born b ≡ v + 1 → Parent k b v
  pub dir_bases : (v : ℕ) → v < k.dir_top → k.dir_base (v + 1) ≡ Some (k.dir_row v)
  pub dir_first : k.dir_base 0 ≡ None
  -- which buckets a version names
  pub entries : (v b : ℕ) → v ≤ k.dir_top → In b (k.dir_at v).entries → (k.named b ≡ true) × (k.born b ≤ v)
  pub born_within : (b : ℕ) → k.named b ≡ true → k.born b ≤ k.dir_top
  pub present : (b : ℕ) → k.named b ≡ true → In b (k.dir_at (k.born b)).entries
  pub newcomers : (v b : ℕ) → v < k.dir_top → In b (k.dir_at (v + 1)).entries →
      In b (k.dir_at v).entries ⊎ (k.born b ≡ v + 1)
