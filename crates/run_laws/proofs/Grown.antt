-- All that is shared once a new directory row is the root: its leaves are new buckets, with one row each.
use Rattle.std.proofs.Common.{◌≡◌, ℕ, ◌+◌, ◌-◌, ◌^◌, ◌<◌, Bool, true, cond, ltb, leb, ◌&&◌, List, length, get_or}
use Rattle.std.specs.Prelude.{Option, Some}
use Rattle.word_rows.specs.BaseWords.{base_of_word}
use Rattle.word_rows.specs.Memory.{put}
use Rattle.table_model.specs.Setup.{Setup}
use Rattle.table_model.specs.Directories.{DirectoryState}
use Rattle.table_model.specs.Leaves.{NewLeaf}
use Rattle.table_model.specs.DirectoryChange.{LoadedBucket}
use Rattle.table_model.specs.Stores.{base_of_leaf}
use Rattle.table_model.specs.Goes.{with_directory}
use Rattle.run_invariant.proofs.Change.{leaf_at, no_leaf, origin}
use Rattle.run_invariant.proofs.Invariant.{Common, IsRow, width}

-- what is stored before the exchange
pub record Stored (setup : Setup) (c : Common) (loaded : List LoadedBucket) (leaves : List NewLeaf)
    (now : DirectoryState) (words : ℕ → List ℕ) (bases : ℕ → Option ℕ) (fresh row dir : ℕ) : Type 0 where
  pub word_is : (i : ℕ) → i < length leaves → c.memory.bucket (fresh + i) ≡ row + i
  pub row_is : (i k : ℕ) → i < length leaves → k < width setup → c.memory.bucket_row (row + i) k ≡ get_or (words i) k 0
  pub sound : (i : ℕ) → i < length leaves →
      IsRow setup (bases i) (leaf_at leaves i).prefix (leaf_at leaves i).depth (words i) (leaf_at leaves i)
  pub from : (i : ℕ) → i < length leaves → bases i ≡ base_of_leaf loaded (get_or leaves i no_leaf)
  pub depth_is : c.memory.directory dir 0 ≡ now.depth
  pub base_is : base_of_word (c.memory.directory dir 1) ≡ Some (c.dir_row c.dir_top)
  pub entries_are : (i : ℕ) → i < 2 ^ now.depth → c.memory.directory dir (2 + i) ≡ get_or now.entries i 0

-- the bucket is one of these new ones
abbrev pub is_new : (fresh many : ℕ) → ℕ → Bool
is_new fresh many b = leb fresh b && ltb b (fresh + many)

-- all that is shared once the root is the new directory row: the leaves are buckets with one row each
abbrev pub grown : Setup → ℕ → List NewLeaf → DirectoryState →
    (words : ℕ → List ℕ) (bases : ℕ → Option ℕ) (fresh row dir : ℕ) → Common → Common
grown setup me leaves now words bases fresh row dir c = record c {
  memory = record c.memory { root = dir };
  dir_top = c.dir_top + 1;
  dir_row = put c.dir_row (c.dir_top + 1) dir;
  dir_base = put c.dir_base (c.dir_top + 1) (Some (c.dir_row c.dir_top));
  dir_at = put c.dir_at (c.dir_top + 1) now;
  named = λ b. cond (is_new fresh (length leaves) b) true (c.named b);
  pre = λ b. cond (is_new fresh (length leaves) b) (leaf_at leaves (b - fresh)).prefix (c.pre b);
  deep = λ b. cond (is_new fresh (length leaves) b) (leaf_at leaves (b - fresh)).depth (c.deep b);
  born = λ b. cond (is_new fresh (length leaves) b) (c.dir_top + 1) (c.born b);
  from = λ b. cond (is_new fresh (length leaves) b) (origin (get_or leaves (b - fresh) no_leaf)) (c.from b);
  top = λ b. cond (is_new fresh (length leaves) b) 0 (c.top b);
  row_at = λ b. cond (is_new fresh (length leaves) b) (λ i. row + (b - fresh)) (c.row_at b);
  base_at = λ b. cond (is_new fresh (length leaves) b) (λ i. bases (b - fresh)) (c.base_at b);
  words_at = λ b. cond (is_new fresh (length leaves) b) (λ i. words (b - fresh)) (c.words_at b);
  state_at = λ b. cond (is_new fresh (length leaves) b) (λ i. leaf_at leaves (b - fresh)) (c.state_at b);
  used = put c.used me (with_directory (c.used me) (length leaves));
}
