-- The history beside a table's words: which rows each bucket had, which directories there were, and what each seat has
-- announced and tries. No seat sees it.
use Rattle.std.proofs.Common.{ℕ, ◌+◌, ◌-◌, Bool, List}
use Rattle.std.specs.Prelude.{Option}
use Rattle.step_counts.specs.StepCounts.{bucket_row_words, new_leaves}
use Rattle.step_counts.specs.declared.rows.SeatRows.{SeatRows}
use Rattle.plain_map.specs.declared.full.FullKind.TheVariants.{OpRows, BucketRows, BucketWords, DirRows}
use Rattle.plain_map.specs.declared.keys.Key.{Key}
use Rattle.word_rows.specs.Shape.{first_number, sizes_of}
use Rattle.word_rows.specs.Memory.{Memory}
use Rattle.bucket_states.specs.declared.ops.Op.{Op}
use Rattle.bucket_states.specs.Items.{prefix_of}
use Rattle.bucket_states.specs.States.{BucketState}
use Rattle.table_model.specs.Setup.{Setup, rules_of}
use Rattle.table_model.specs.Directories.{DirectoryState, bucket_of}

-- ---- numbers

-- the number of a seat's op row, bucket row, bucket word and directory row, by its place in the seat's range
unfoldable pub op_no : Setup → ℕ → ℕ → ℕ
op_no setup p j = first_number setup.shape p OpRows + j

unfoldable pub row_no : Setup → ℕ → ℕ → ℕ
row_no setup p j = first_number setup.shape p BucketRows + j

unfoldable pub word_no : Setup → ℕ → ℕ → ℕ
word_no setup p j = first_number setup.shape p BucketWords + j

unfoldable pub dir_no : Setup → ℕ → ℕ → ℕ
dir_no setup p j = first_number setup.shape p DirRows + j

-- how many of each kind a seat has
abbrev pub op_room : Setup → ℕ → ℕ
op_room setup p = (sizes_of setup.shape p).op_rows

abbrev pub row_room : Setup → ℕ → ℕ
row_room setup p = (sizes_of setup.shape p).bucket_rows

abbrev pub word_room : Setup → ℕ → ℕ
word_room setup p = (sizes_of setup.shape p).bucket_words

abbrev pub dir_room : Setup → ℕ → ℕ
dir_room setup p = (sizes_of setup.shape p).directory_rows

-- how many words a bucket row has, and the most leaves of a directory change
unfoldable pub width : Setup → ℕ
width setup = bucket_row_words setup.shape.settings

unfoldable pub most_leaves : Setup → ℕ
most_leaves setup = new_leaves setup.shape.settings

-- the key's first bits
abbrev pub bits : Setup → ℕ → Key → ℕ
bits setup depth key = prefix_of (rules_of setup) depth key

-- ---- the history

-- what all seats share: the memory, and the history that no program sees
pub record Common : Type 0 where
  pub memory : Memory
  -- the directory rows: the place of the last; of each its number, the number of the row that it was made from, and
  -- what it says
  pub dir_top : ℕ
  pub dir_row : ℕ → ℕ
  pub dir_base : ℕ → Option ℕ
  pub dir_at : ℕ → DirectoryState
  -- the buckets: which there are, of each its prefix and its depth, the place of the directory row that named it first,
  -- and which bucket it comes from, where that is not the first directory row
  pub named : ℕ → Bool
  pub pre : ℕ → ℕ
  pub deep : ℕ → ℕ
  pub born : ℕ → ℕ
  pub from : ℕ → ℕ
  -- the rows of each bucket: the place of the last; of each the row's number, the number of the row that it was made
  -- from, its words, and what it says
  pub top : ℕ → ℕ
  pub row_at : ℕ → ℕ → ℕ
  pub base_at : ℕ → ℕ → Option ℕ
  pub words_at : ℕ → ℕ → List ℕ
  pub state_at : ℕ → ℕ → BucketState
  -- the seats: what each has published, and its announced ops
  pub used : ℕ → SeatRows
  pub op_at : ℕ → ℕ → Op
  pub op_words : ℕ → ℕ → List ℕ
  -- whether the seat's announced op has found a bucket, and the place of the directory row by which it did first
  pub rooted : ℕ → Bool
  pub first_dir : ℕ → ℕ
  -- whether it is in a round, at which bucket, and the place of the row that the first bucket try of the round loaded
  pub tried : ℕ → Bool
  pub tried_at : ℕ → ℕ
  pub since : ℕ → ℕ
  -- whether it is in the round's directory tries, and the place of the directory row that the first of them loaded
  pub dir_tried : ℕ → Bool
  pub dir_since : ℕ → ℕ

-- the op that a seat announced last
abbrev pub op_now : Common → ℕ → Op
op_now c p = c.op_at p ((c.used p).op_rows - 1)

-- the bucket of a key by a directory row
abbrev pub lead : Setup → Common → ℕ → Key → ℕ
lead setup c v key = bucket_of (rules_of setup) (c.dir_at v) key

-- the last row of a bucket
abbrev pub last : Common → ℕ → BucketState
last c b = c.state_at b (c.top b)

-- the history of one bucket
pub record Line : Type 0 where
  pub pre : ℕ
  pub deep : ℕ
  pub born : ℕ
  pub from : ℕ
  pub top : ℕ
  pub row_at : ℕ → ℕ
  pub base_at : ℕ → Option ℕ
  pub words_at : ℕ → List ℕ
  pub state_at : ℕ → BucketState

-- the history of bucket b
abbrev pub line : Common → ℕ → Line
line c b = record {
  pre = c.pre b;
  deep = c.deep b;
  born = c.born b;
  from = c.from b;
  top = c.top b;
  row_at = c.row_at b;
  base_at = c.base_at b;
  words_at = c.words_at b;
  state_at = c.state_at b;
}

-- what a seat remembers beside its state: the places of the directory row by which its round found its bucket, of the
-- directory row and of the bucket row that it loads, and of which bucket that is
pub record Local : Type 0 where
  pub dir : ℕ
  pub root : ℕ
  pub at : ℕ
  pub base : ℕ
