-- What holds of the memory and its history at every moment, whatever seat is looked at.
use Rattle.std.proofs.Common.{◌≡◌, ◌≢◌, ℕ, ◌+◌, ◌-◌, ◌/◌, ◌^◌, ◌<◌, ◌≤◌, ◌⊎◌, Bool, true, false, List, length, get_or}
use Rattle.std.specs.Prelude.{Option, Some, None, ◌↔◌}
use Rattle.step_counts.specs.declared.TheConstants.{OP_WORDS}
use Rattle.step_counts.specs.declared.rows.SeatRows.{SeatRows}
use Rattle.plain_map.specs.declared.full.FullKind.TheVariants.{BucketRows, BucketWords, DirRows}
use Rattle.plain_map.specs.declared.keys.Key.{Key}
use Rattle.plain_map.specs.Calls.{key_in}
use Rattle.word_rows.specs.Shape.{count_of}
use Rattle.word_rows.specs.OpWords.{SpellsOp}
use Rattle.word_rows.specs.BaseWords.{base_of_word}
use Rattle.word_rows.specs.BucketWords.{SpellsBucket}
use Rattle.bucket_states.specs.declared.ops.Op.{Op}
use Rattle.bucket_states.specs.States.{BucketState, row_of_state}
use Rattle.bucket_states.specs.Laws.{IsGood, applied_of}
use Rattle.bucket_states.specs.Values.{IsSmall, IsUpdate}
use Rattle.table_model.specs.Setup.{Setup, IsSetup, seats_of, rules_of}
use Rattle.table_model.specs.Directories.{DirectoryState, bucket_of}
use Rattle.table_model.specs.Goes.{bucket_in_words, op_in_words}
use Rattle.run_invariant.proofs.History.{op_no, row_no, word_no, dir_no, op_room, row_room, word_room, dir_room, width, bits, Common, Line, line}
use Rattle.plain_map.specs.Updates.{number_limit}

-- ---- what holds of what is shared

-- the words of a bucket row, what they say, and that it is sound
pub record IsRow (setup : Setup) (base : Option ℕ) (pre deep : ℕ) (words : List ℕ) (state : BucketState) : Type 0 where
  pub long : length words ≡ width setup
  pub spells : SpellsBucket setup.shape.settings (row_of_state base state) words
  pub says : bucket_in_words setup words ≡ state
  pub count : get_or words 4 0 ≤ setup.shape.settings.items
  pub good : IsGood (rules_of setup) (seats_of setup) state
  pub small : IsSmall state
  pub prefix_is : state.prefix ≡ pre
  pub depth_is : state.depth ≡ deep

-- the published bucket rows: none comes twice, none is written again, a frozen one is the last, and numbers never fall
pub record Rows (setup : Setup) (bucket : ℕ → ℕ) (bucket_row : ℕ → ℕ → ℕ) (named : ℕ → Bool) (pre deep top : ℕ → ℕ)
    (row_at : ℕ → ℕ → ℕ)
    (base_at : ℕ → ℕ → Option ℕ) (words_at : ℕ → ℕ → List ℕ) (state_at : ℕ → ℕ → BucketState)
    (used : ℕ → SeatRows) : Type 0 where
  pub word_is : (b : ℕ) → named b ≡ true → bucket b ≡ row_at b (top b)
  pub inside : (b : ℕ) → named b ≡ true → b < count_of setup.shape BucketWords
  pub fresh_word : (b p j : ℕ) → named b ≡ true → p < seats_of setup → (used p).bucket_words ≤ j →
      j < word_room setup p → b ≢ word_no setup p j
  pub within : (b i : ℕ) → named b ≡ true → i ≤ top b → row_at b i < count_of setup.shape BucketRows
  pub fresh : (b i p j : ℕ) → named b ≡ true → i ≤ top b → p < seats_of setup → (used p).bucket_rows ≤ j →
      j < row_room setup p → row_at b i ≢ row_no setup p j
  pub once : (a b i j : ℕ) → named a ≡ true → named b ≡ true → i ≤ top a → j ≤ top b → row_at a i ≡ row_at b j →
      (a ≡ b) × (i ≡ j)
  pub rows_are : (b i k : ℕ) → named b ≡ true → i ≤ top b → k < width setup →
      bucket_row (row_at b i) k ≡ get_or (words_at b i) k 0
  pub sound : (b i : ℕ) → named b ≡ true → i ≤ top b →
      IsRow setup (base_at b i) (pre b) (deep b) (words_at b i) (state_at b i)
  pub open_ : (b i : ℕ) → named b ≡ true → i < top b → (state_at b i).frozen ≡ false
  pub rises : (b i p : ℕ) → named b ≡ true → i ≤ top b → applied_of (state_at b i) p ≤ applied_of (state_at b (top b)) p

-- where the key's bucket is replaced: it is frozen, the new one is new, and has its numbers
pub record Replaces (named : ℕ → Bool) (born top : ℕ → ℕ) (state_at : ℕ → ℕ → BucketState) (was now v : ℕ) : Type 0
  where
    pub frozen : (state_at was (top was)).frozen ≡ true
    pub newborn : born now ≡ v + 1
    pub carries : (p : ℕ) → applied_of (state_at was (top was)) p ≤ applied_of (state_at now 0) p

-- a bucket of this prefix stands in the directory at exactly the places that go on from it
pub record Stands (directory : DirectoryState) (bucket pre deep : ℕ) : Type 0 where
  pub shallow : deep ≤ directory.depth
  pub places : (place : ℕ) → place < 2 ^ directory.depth →
      (get_or directory.entries place 0 ≡ bucket) ↔ (place / 2 ^ (directory.depth - deep) ≡ pre)

-- the published directory rows
pub record Directories (setup : Setup) (root : ℕ) (directory : ℕ → ℕ → ℕ) (dir_top : ℕ) (dir_row : ℕ → ℕ)
    (dir_at : ℕ → DirectoryState) (used : ℕ → SeatRows) : Type 0 where
  pub root_is : root ≡ dir_row dir_top
  pub within : (v : ℕ) → v ≤ dir_top → dir_row v < count_of setup.shape DirRows
  pub fresh : (v p j : ℕ) → v ≤ dir_top → p < seats_of setup → (used p).directory_rows ≤ j → j < dir_room setup p →
      dir_row v ≢ dir_no setup p j
  pub once : (u v : ℕ) → u ≤ dir_top → v ≤ dir_top → dir_row u ≡ dir_row v → u ≡ v
  pub shallow : (v : ℕ) → v ≤ dir_top → (dir_at v).depth ≤ setup.shape.settings.depth
  pub depth_is : (v : ℕ) → v ≤ dir_top → directory (dir_row v) 0 ≡ (dir_at v).depth
  pub long : (v : ℕ) → v ≤ dir_top → length (dir_at v).entries ≡ 2 ^ (dir_at v).depth
  pub entries_are : (v i : ℕ) → v ≤ dir_top → i < 2 ^ (dir_at v).depth →
      directory (dir_row v) (2 + i) ≡ get_or (dir_at v).entries i 0

-- where they lead
pub record Leads (setup : Setup) (dir_top : ℕ) (dir_at : ℕ → DirectoryState) (named : ℕ → Bool)
    (pre deep born top : ℕ → ℕ) (state_at : ℕ → ℕ → BucketState) : Type 0 where
  pub there : (v : ℕ) (key : Key) → v ≤ dir_top → named (bucket_of (rules_of setup) (dir_at v) key) ≡ true
  pub for_it : (v : ℕ) (key : Key) → v ≤ dir_top →
      bits setup (deep (bucket_of (rules_of setup) (dir_at v) key)) key ≡ pre
      (bucket_of (rules_of setup) (dir_at v) key)
  -- at every place there is a bucket, which stands at exactly the places that go on from its prefix
  pub every : (v place : ℕ) → v ≤ dir_top → place < 2 ^ (dir_at v).depth →
      named (get_or (dir_at v).entries place 0) ≡ true
  pub stands : (v place : ℕ) → v ≤ dir_top → place < 2 ^ (dir_at v).depth →
      Stands (dir_at v) (get_or (dir_at v).entries place 0) (pre (get_or (dir_at v).entries place 0))
      (deep (get_or (dir_at v).entries place 0))
  pub born_by : (v : ℕ) (key : Key) → v ≤ dir_top → born (bucket_of (rules_of setup) (dir_at v) key) ≤ v
  pub step : (v : ℕ) (key : Key) → v < dir_top →
      bucket_of (rules_of setup) (dir_at (v + 1)) key ≢ bucket_of (rules_of setup) (dir_at v) key →
      Replaces named born top state_at (bucket_of (rules_of setup) (dir_at v) key)
      (bucket_of (rules_of setup) (dir_at (v + 1)) key) v

-- the directory has the bucket at some place
abbrev pub Names : DirectoryState → ℕ → Type 0
Names directory bucket = (place : ℕ) × (place < 2 ^ directory.depth) × (get_or directory.entries place 0 ≡ bucket)

-- a bucket comes from an old one: from its last row, which is frozen, and its prefix and its numbers go on from there
pub record Comes (was now : Line) : Type 0 where
  pub frozen : (was.state_at was.top).frozen ≡ true
  pub shallow : was.deep < now.deep
  pub prefix : now.pre / 2 ^ (now.deep - was.deep) ≡ was.pre
  pub base : now.base_at 0 ≡ Some (was.row_at was.top)
  pub carries : (p : ℕ) → applied_of (was.state_at was.top) p ≤ applied_of (now.state_at 0) p

-- where rows and buckets come from, by place: each row is made from the one before it, and a bucket is named from the
-- directory on that bore it, while the bucket that it comes from is named up to the one before
pub record Descent (setup : Setup) (directory : ℕ → ℕ → ℕ) (dir_top : ℕ) (dir_row : ℕ → ℕ) (dir_base : ℕ → Option ℕ)
    (dir_at : ℕ → DirectoryState) (named : ℕ → Bool) (of : ℕ → Line) : Type 0 where
  pub dir_says : (v : ℕ) → v ≤ dir_top → base_of_word (directory (dir_row v) 1) ≡ dir_base v
  pub dir_first : dir_base 0 ≡ None
  pub dir_bases : (v : ℕ) → v < dir_top → dir_base (v + 1) ≡ Some (dir_row v)
  pub bases : (b i : ℕ) → named b ≡ true → i < (of b).top → (of b).base_at (i + 1) ≡ Some ((of b).row_at i)
  pub opening : (b : ℕ) → named b ≡ true → (of b).born ≡ 0 → (of b).base_at 0 ≡ None
  pub starts : (b : ℕ) → named b ≡ true → setup.shape.settings.start ≤ (of b).deep
  pub born_within : (b : ℕ) → named b ≡ true → (of b).born ≤ dir_top
  -- who stands in a directory is born by then, and a bucket stands in the directory that bore it
  pub entries : (v place : ℕ) → v ≤ dir_top → place < 2 ^ (dir_at v).depth →
      (of (get_or (dir_at v).entries place 0)).born ≤ v
  pub present : (b : ℕ) → named b ≡ true → Names (dir_at (of b).born) b
  -- who stands in the next directory, and not in this one, is born by it
  pub newcomers : (v place : ℕ) → v < dir_top → place < 2 ^ (dir_at (v + 1)).depth →
      Names (dir_at v) (get_or (dir_at (v + 1)).entries place 0)
      ⊎ ((of (get_or (dir_at (v + 1)).entries place 0)).born ≡ v + 1)
  -- a later bucket comes from one that stood in the directory before, and stands in no later one
  pub there : (b v : ℕ) → named b ≡ true → (of b).born ≡ v + 1 → named (of b).from ≡ true
  pub comes : (b v : ℕ) → named b ≡ true → (of b).born ≡ v + 1 → Comes (of (of b).from) (of b)
  pub stood : (b v : ℕ) → named b ≡ true → (of b).born ≡ v + 1 → Names (dir_at v) (of b).from
  pub gone : (b v u place : ℕ) → named b ≡ true → (of b).born ≡ v + 1 → v < u → u ≤ dir_top →
      place < 2 ^ (dir_at u).depth →
      get_or (dir_at u).entries place 0 ≢ (of b).from
  -- and it was the bucket of each of its keys
  pub parent_leads : (v : ℕ) (key : Key) → v < dir_top →
      bucket_of (rules_of setup) (dir_at (v + 1)) key ≢ bucket_of (rules_of setup) (dir_at v) key →
      (of (bucket_of (rules_of setup) (dir_at (v + 1)) key)).from ≡ bucket_of (rules_of setup) (dir_at v) key

-- the words of an op row, and what they say
pub record IsOpRow (p : ℕ) (words : List ℕ) (op : Op) : Type 0 where
  pub long : length words ≡ OP_WORDS
  pub spells : SpellsOp (record { number = op.number; call = op.call }) words
  pub says : op_in_words p words ≡ op
  pub update : IsUpdate op.call
  pub few : op.number < number_limit

-- the announced ops
pub record Calls (setup : Setup) (announced : ℕ → ℕ) (op : ℕ → ℕ → ℕ) (used : ℕ → SeatRows) (op_at : ℕ → ℕ → Op)
    (op_words : ℕ → ℕ → List ℕ) : Type 0 where
  pub none : (p : ℕ) → p < seats_of setup → announced p ≡ 0 → (used p).op_rows ≡ 0
  pub posted : (p : ℕ) → p < seats_of setup → announced p ≢ 0 → (0 < (used p).op_rows)
      × (announced p ≡ op_no setup p ((used p).op_rows - 1) + 1)
  pub ops_are : (p j i : ℕ) → p < seats_of setup → j < (used p).op_rows → i < OP_WORDS →
      op (op_no setup p j) i ≡ get_or (op_words p j) i 0
  pub sound : (p j : ℕ) → p < seats_of setup → j < (used p).op_rows → IsOpRow p (op_words p j) (op_at p j)
  pub few : (p : ℕ) → p < seats_of setup → (used p).op_rows ≤ op_room setup p

-- the bucket has the op, or is frozen
abbrev pub HasOp : BucketState → ℕ → Op → Type 0
HasOp state p op = (op.number ≤ applied_of state p) ⊎ (state.frozen ≡ true)

-- what the rows have of each seat's announced op
pub record Helped (setup : Setup) (named : ℕ → Bool) (pre deep top : ℕ → ℕ) (state_at : ℕ → ℕ → BucketState)
    (used : ℕ → SeatRows) (op_at : ℕ → ℕ → Op) (tried : ℕ → Bool) (tried_at since : ℕ → ℕ) : Type 0 where
  pub announced : (p : ℕ) → p < seats_of setup → tried p ≡ true → 0 < (used p).op_rows
  pub there : (p : ℕ) → p < seats_of setup → tried p ≡ true → named (tried_at p) ≡ true
  pub begun : (p : ℕ) → p < seats_of setup → tried p ≡ true → since p ≤ top (tried_at p)
  pub for_it : (p : ℕ) → p < seats_of setup → tried p ≡ true →
      bits setup (deep (tried_at p)) (key_in (op_at p ((used p).op_rows - 1)).call) ≡ pre (tried_at p)
  pub helped : (p i : ℕ) → p < seats_of setup → tried p ≡ true → since p + 2 ≤ i → i ≤ top (tried_at p) →
      HasOp (state_at (tried_at p) i) p (op_at p ((used p).op_rows - 1))

-- what the directories have of it
pub record Carried (setup : Setup) (dir_top : ℕ) (dir_at : ℕ → DirectoryState) (top : ℕ → ℕ)
    (state_at : ℕ → ℕ → BucketState) (used : ℕ → SeatRows) (op_at : ℕ → ℕ → Op) (rooted : ℕ → Bool) (first_dir : ℕ → ℕ)
    (tried_at : ℕ → ℕ) (dir_tried : ℕ → Bool) (dir_since : ℕ → ℕ) : Type 0 where
  pub announced : (p : ℕ) → p < seats_of setup → rooted p ≡ true → 0 < (used p).op_rows
  pub begun : (p : ℕ) → p < seats_of setup → rooted p ≡ true → first_dir p ≤ dir_top
  -- a change from a later directory than the first has it, where it replaces the bucket of its key
  pub carried : (p v : ℕ) → p < seats_of setup → rooted p ≡ true → first_dir p < v → v < dir_top →
      bucket_of (rules_of setup) (dir_at (v + 1)) (key_in (op_at p ((used p).op_rows - 1)).call) ≢ bucket_of
      (rules_of setup) (dir_at v) (key_in (op_at p ((used p).op_rows - 1)).call) →
      (op_at p ((used p).op_rows - 1)).number ≤ applied_of (state_at (bucket_of (rules_of setup) (dir_at (v + 1))
      (key_in (op_at p ((used p).op_rows - 1)).call)) 0) p
  -- its directory tries began at a directory after the first; the bucket of its round is frozen without it
  pub dir_begun : (p : ℕ) → p < seats_of setup → dir_tried p ≡ true → (rooted p ≡ true) × (first_dir p ≤ dir_since p)
      × (dir_since p ≤ dir_top)
  pub frozen : (p : ℕ) → p < seats_of setup → dir_tried p ≡ true →
      (state_at (tried_at p) (top (tried_at p))).frozen ≡ true
  pub lacks : (p : ℕ) → p < seats_of setup → dir_tried p ≡ true →
      applied_of (state_at (tried_at p) (top (tried_at p))) p < (op_at p ((used p).op_rows - 1)).number
  -- some directory up to then led to that bucket
  pub led : (p : ℕ) → p < seats_of setup → dir_tried p ≡ true → (u : ℕ) × (u ≤ dir_since p)
      × (bucket_of (rules_of setup) (dir_at u) (key_in (op_at p ((used p).op_rows - 1)).call) ≡ tried_at p)
  -- a change from a later directory than they began at replaces that bucket
  pub replaced : (p v : ℕ) → p < seats_of setup → dir_tried p ≡ true → dir_since p < v → v < dir_top →
      bucket_of (rules_of setup) (dir_at (v + 1)) (key_in (op_at p ((used p).op_rows - 1)).call) ≢ tried_at p

pub record Shared (setup : Setup) (c : Common) : Type 0 where
  pub opened : IsSetup setup
  pub rows : Rows setup c.memory.bucket c.memory.bucket_row c.named c.pre c.deep c.top c.row_at c.base_at c.words_at
      c.state_at c.used
  pub directories : Directories setup c.memory.root c.memory.directory c.dir_top c.dir_row c.dir_at c.used
  pub leads : Leads setup c.dir_top c.dir_at c.named c.pre c.deep c.born c.top c.state_at
  pub calls : Calls setup c.memory.announced c.memory.op c.used c.op_at c.op_words
  pub helped : Helped setup c.named c.pre c.deep c.top c.state_at c.used c.op_at c.tried c.tried_at c.since
  pub carried : Carried setup c.dir_top c.dir_at c.top c.state_at c.used c.op_at c.rooted c.first_dir c.tried_at
      c.dir_tried c.dir_since

-- the same, of all that is shared
abbrev pub Descends : Setup → Common → Type 0
Descends setup c = Descent setup c.memory.directory c.dir_top c.dir_row c.dir_base c.dir_at c.named (line c)
