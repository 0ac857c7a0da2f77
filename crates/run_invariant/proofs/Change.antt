-- What the steps of a directory try rest on: the facts about its change. They follow from the laws of the directory
-- change.
use Rattle.std.proofs.Common.{◌≡◌, ◌≢◌, ℕ, ◌+◌, ◌-◌, ◌/◌, ◌<◌, ◌≤◌, ◌^◌, ◌⊎◌, true, false, List, length, get_or, ap, ◌∙◌, arith}
use Rattle.std.specs.Prelude.{Option, Some, None, All}
use Rattle.step_counts.specs.declared.rows.SeatRows.{SeatRows}
use Rattle.plain_map.specs.declared.keys.Key.{Key}
use Rattle.plain_map.specs.declared.calls.Call.{Call}
use Rattle.plain_map.specs.Calls.{key_in}
use Rattle.bucket_states.specs.declared.ops.Op.{Op}
use Rattle.bucket_states.specs.States.{BucketState, empty_state}
use Rattle.bucket_states.specs.Laws.{IsGood, applied_of}
use Rattle.bucket_states.specs.Values.{IsSmall}
use Rattle.plain_map.specs.declared.full.FullKind.TheVariants.{BucketWords}
use Rattle.table_model.specs.Setup.{Setup, seats_of, rules_of, next_number}
use Rattle.run_invariant.proofs.Numbers.{next_word, word_no_more}
use Rattle.table_model.specs.Directories.{DirectoryState, bucket_of}
use Rattle.table_model.specs.Leaves.{NewLeaf, is_in}
use Rattle.table_model.specs.DirectoryChange.{LoadedBucket, next_bucket, with_leaves}
use Rattle.table_model.specs.Phases.{DirectoryTry}
use Rattle.table_model.specs.Stores.{made_leaves, base_of_leaf}
use Rattle.run_invariant.proofs.Invariant.{Common, Shared, DirOpens, AllDirFound, IsLoaded, Names, Stands, bits, last, lead, most_leaves, word_room}

-- a directory try that has loaded all
pub record IsTry (setup : Setup) (c : Common) (me dir root : ℕ) (call : Call) (bucket : ℕ) (attempt : DirectoryTry)
    (found : List (Option Op)) (loaded : List LoadedBucket) : Type 0 where
  pub opens : DirOpens setup c me dir root call bucket attempt
  pub all : length found ≡ seats_of setup
  pub entries : AllDirFound setup c me root found
  pub loads : All (IsLoaded setup c me root) loaded
  pub whole : next_bucket (rules_of setup) attempt.directory loaded found ≡ None

-- what stands for a leaf past the last one; and the i-th leaf
abbrev pub no_leaf : NewLeaf
no_leaf = record { from = None; bucket = empty_state 0 }

abbrev pub leaf_at : List NewLeaf → ℕ → BucketState
leaf_at leaves i = (get_or leaves i no_leaf).bucket

-- the bucket that a leaf comes from
abbrev pub number_in : Option ℕ → ℕ
number_in None = 0
number_in (Some b) = b

-- the bucket that a leaf comes from, by its number
abbrev pub origin : NewLeaf → ℕ
origin leaf = number_in leaf.from

-- a leaf comes from the last row of a bucket of the directory, which was loaded and is frozen
pub record IsLeaf (setup : Setup) (c : Common) (root : ℕ) (loaded : List LoadedBucket) (leaf : NewLeaf) : Type 0 where
  pub there : c.named (origin leaf) ≡ true
  pub frozen : (last c (origin leaf)).frozen ≡ true
  pub shallow : c.deep (origin leaf) < leaf.bucket.depth
  pub prefix : leaf.bucket.prefix / 2 ^ (leaf.bucket.depth - c.deep (origin leaf)) ≡ c.pre (origin leaf)
  pub base : base_of_leaf loaded leaf ≡ Some (c.row_at (origin leaf) (c.top (origin leaf)))
  pub carries : (p : ℕ) → applied_of (last c (origin leaf)) p ≤ applied_of leaf.bucket p
  pub stood : Names (c.dir_at root) (origin leaf)

-- a bucket that can stand alone
pub record IsFresh (setup : Setup) (leaf : BucketState) : Type 0 where
  pub good : IsGood (rules_of setup) (seats_of setup) leaf
  pub small : IsSmall leaf
  pub open_ : leaf.frozen ≡ false

-- what a change makes of the last directory: where its leaves come from, where they stand, and what they have
pub record IsChange (setup : Setup) (c : Common) (root : ℕ) (found : List (Option Op)) (loaded : List LoadedBucket)
    (leaves : List NewLeaf) (fresh : ℕ) (now : DirectoryState) : Type 0 where
  pub shallow : now.depth ≤ setup.shape.settings.depth
  pub long : length now.entries ≡ 2 ^ now.depth
  pub sound : (i : ℕ) → i < length leaves → IsFresh setup (leaf_at leaves i)
  pub comes : (i : ℕ) → i < length leaves → IsLeaf setup c root loaded (get_or leaves i no_leaf)
  pub stands_new : (i : ℕ) → i < length leaves →
      Stands now (fresh + i) (leaf_at leaves i).prefix (leaf_at leaves i).depth
  -- at every place stands a bucket of the old directory, or a leaf
  pub places : (place : ℕ) → place < 2 ^ now.depth →
      ((c.named (get_or now.entries place 0) ≡ true)
      × Stands now (get_or now.entries place 0) (c.pre (get_or now.entries place 0))
      (c.deep (get_or now.entries place 0))
      × Names (c.dir_at root) (get_or now.entries place 0))
      ⊎ ((i : ℕ) × (i < length leaves) × (get_or now.entries place 0 ≡ fresh + i))
  -- a key's bucket stays, or it is replaced by a leaf that comes from it
  pub goes : (key : Key) →
      (bucket_of (rules_of setup) now key ≡ lead setup c root key)
      ⊎ ((i : ℕ) × (i < length leaves) × (bucket_of (rules_of setup) now key ≡ fresh + i)
      × (bits setup (leaf_at leaves i).depth key ≡ (leaf_at leaves i).prefix)
      × (origin (get_or leaves i no_leaf) ≡ lead setup c root key))
  -- an op that was found is in the leaf of its key
  pub takes : (p i : ℕ) (op : Op) → p < seats_of setup → get_or found p None ≡ Some op → i < length leaves →
      bucket_of (rules_of setup) now (key_in op.call) ≡ fresh + i → op.number ≤ applied_of (leaf_at leaves i) p
  -- and in each leaf that has its key
  pub holds : (p i : ℕ) (op : Op) → get_or found p None ≡ Some op → i < length leaves →
      is_in (rules_of setup) (key_in op.call) (leaf_at leaves i) ≡ true → op.number ≤ applied_of (leaf_at leaves i) p
  -- and its bucket is replaced, where that was loaded frozen without it
  pub replaces : (p : ℕ) (op : Op) → p < seats_of setup → get_or found p None ≡ Some op →
      applied_of (last c (lead setup c root (key_in op.call))) p < op.number →
      All (λ l. l.bucket ≡ lead setup c root (key_in op.call) → l.state.frozen ≡ true) loaded → (i : ℕ)
      × (i < length leaves) × (bucket_of (rules_of setup) now (key_in op.call) ≡ fresh + i)

-- no bucket that there is has one of these numbers
abbrev pub AreFree : Common → (fresh many : ℕ) → Type 0
AreFree c fresh many = (b i : ℕ) → c.named b ≡ true → i < many → b ≢ fresh + i

-- what is to be proved of every change, from the laws of the directory change
pub record Changes (setup : Setup) : Type 0 where
  pub few : (c : Common) (me dir root bucket : ℕ) (call : Call) (attempt : DirectoryTry) (found : List (Option Op))
      (loaded : List LoadedBucket) → Shared setup c → IsTry setup c me dir root call bucket attempt found loaded →
      length (made_leaves setup attempt found loaded) ≤ most_leaves setup
  pub change : (c : Common) (me dir root bucket fresh : ℕ) (call : Call) (attempt : DirectoryTry)
      (found : List (Option Op)) (loaded : List LoadedBucket) → Shared setup c →
      IsTry setup c me dir root call bucket attempt found loaded →
      AreFree c fresh (length (made_leaves setup attempt found loaded)) →
      IsChange setup c root found loaded (made_leaves setup attempt found loaded) fresh
      (with_leaves fresh (made_leaves setup attempt found loaded) attempt.directory)

-- the numbers that a seat uses next are free
pub numbers_free : (setup : Setup) (me : ℕ) (c : Common) → me < seats_of setup → Shared setup c →
    (used : SeatRows) (many : ℕ) → c.used me ≡ used → used.bucket_words + many ≤ word_room setup me →
    AreFree c (next_number setup me BucketWords used) many
numbers_free setup me c h s used many e room b i n m same =
    s.rows.fresh_word b me (used.bucket_words + i) n h (omega (arith, ap (λ (u : SeatRows). u.bucket_words) e))
    (omega (arith, m, room)) (same ∙ ap (λ x. x + i) (next_word setup me used)
    ∙ word_no_more setup me used.bucket_words i)
