-- The directory change: each announced op whose bucket was loaded frozen without it is taken, in the order of the
-- seats. Its frozen bucket is split, the leaf of its key is split further while it must be, and the op is answered
-- there.
-- Source: this project's own; that one caller takes the ops of others is the idea of helping in Fatourou, Kallimanis
-- and Ropars, "An Efficient Wait-free Resizable Hash Table", SPAA 2018.
use Rattle.std.specs.Prelude.{ℕ, suc, ◌-◌, ◌/◌, ◌^◌, ◌==◌, nat_lt, max, Bool, false, not, ◌&&◌, if◌then◌else◌, List, [], ◌∷◌, Option, Some, None, slice_index, find, fold, filter_map}
use Rattle.std.specs.Option.{option_map, option_map_or}
use Rattle.std.specs.List.{list_any}
use Rattle.plain_map.specs.declared.rules.Rules.{Rules}
use Rattle.plain_map.specs.Calls.{key_in}
use Rattle.word_rows.specs.Blocks.{first_values}
use Rattle.bucket_states.specs.declared.ops.Op.{Op}
use Rattle.bucket_states.specs.States.{BucketState}
use Rattle.table_model.specs.Directories.{DirectoryState, bucket_of}
use Rattle.table_model.specs.Leaves.{NewLeaf, halves, apply, split_for, add_leaf}

-- a bucket that was loaded: its number, the number of its row, and what the row says
pub record LoadedBucket : Type 0 where
  pub bucket : ℕ
  pub row : ℕ
  pub state : BucketState

-- the bucket is this one
abbrev pub is_bucket : ℕ → LoadedBucket → Bool
is_bucket bucket loaded = loaded.bucket == bucket

-- the bucket with this number, among those that were loaded
abbrev pub loaded_of : List LoadedBucket → ℕ → Option LoadedBucket
loaded_of loaded bucket = find (is_bucket bucket) loaded

-- the bucket was loaded frozen, without this op of the seat
abbrev pub is_frozen_without : (seat : ℕ) → Op → LoadedBucket → Bool
is_frozen_without seat op loaded = loaded.state.frozen && nat_lt (slice_index loaded.state.applied seat) op.number

-- the leaf comes from this bucket
abbrev pub comes_from : ℕ → NewLeaf → Bool
comes_from bucket leaf = option_map_or (λ from. from == bucket) leaf.from false

-- the two parts of a frozen bucket, unless the change has split it already
abbrev pub with_parts : Rules → LoadedBucket → List NewLeaf → List NewLeaf
with_parts rules loaded leaves =
    if list_any (comes_from loaded.bucket) leaves then leaves
    else fold (λ so_far leaf. add_leaf rules leaf so_far) leaves
    (halves rules (record { from = Some loaded.bucket; bucket = loaded.state }))

-- the leaves after a seat's op, whose bucket was loaded so
abbrev pub after_op_in : Rules → (seat : ℕ) → Op → List NewLeaf → Option LoadedBucket → List NewLeaf
after_op_in rules seat op leaves None = leaves
after_op_in rules seat op leaves (Some loaded) =
    if is_frozen_without seat op loaded
    then apply rules seat op (split_for rules op.call rules.depth (with_parts rules loaded leaves))
    else leaves

-- the leaves after one seat, which may have announced nothing
abbrev pub leaves_after_seat : Rules → DirectoryState → List LoadedBucket → (seat : ℕ) → Option Op → List NewLeaf →
    List NewLeaf
leaves_after_seat rules directory loaded seat None leaves = leaves
leaves_after_seat rules directory loaded seat (Some op) leaves =
    after_op_in rules seat op leaves (loaded_of loaded (bucket_of rules directory (key_in op.call)))

-- the leaves after these seats, the first of which has this number
abbrev pub leaves_after : Rules → DirectoryState → List LoadedBucket → (seat : ℕ) → List (Option Op) → List NewLeaf →
    List NewLeaf
leaves_after rules directory loaded seat [] leaves = leaves
leaves_after rules directory loaded seat (op ∷ ops) leaves =
    leaves_after rules directory loaded (suc seat) ops (leaves_after_seat rules directory loaded seat op leaves)

-- the new leaves of a change, by the directory, the loaded buckets and the announced ops
unfoldable pub change_leaves : Rules → DirectoryState → List LoadedBucket → List (Option Op) → List NewLeaf
change_leaves rules directory loaded ops = leaves_after rules directory loaded 0 ops []

-- the directory doubles while a leaf is deeper than it
abbrev pub depth_after : DirectoryState → List NewLeaf → ℕ
depth_after directory leaves = fold (λ depth leaf. max depth leaf.bucket.depth) directory.depth leaves

-- the number of the leaf that has this place of a directory of this depth, where the first leaf has the number fresh;
-- and else the number that was there
abbrev pub number_at : (depth place fresh was : ℕ) → List NewLeaf → ℕ
number_at depth place fresh was [] = was
number_at depth place fresh was (leaf ∷ leaves) =
    if place / 2 ^ (depth - leaf.bucket.depth) == leaf.bucket.prefix then fresh
    else number_at depth place (suc fresh) was leaves

-- the directory with these leaves, which are numbered from fresh on
unfoldable pub with_leaves : (fresh : ℕ) → List NewLeaf → DirectoryState → DirectoryState
with_leaves fresh leaves directory =
    let depth = depth_after directory leaves in
    record {
      depth = depth;
      entries = first_values
          (λ place. number_at depth place fresh
          (slice_index directory.entries (place / 2 ^ (depth - directory.depth))) leaves)
          (2 ^ depth);
    }

-- the buckets of the announced ops, in the order of the seats
abbrev pub buckets_of : Rules → DirectoryState → List (Option Op) → List ℕ
buckets_of rules directory ops = filter_map (option_map (λ op. bucket_of rules directory (key_in op.call))) ops

-- the first of them that was not loaded yet
abbrev pub next_bucket : Rules → DirectoryState → List LoadedBucket → List (Option Op) → Option ℕ
next_bucket rules directory loaded ops =
    find (λ bucket. not (list_any (is_bucket bucket) loaded)) (buckets_of rules directory ops)
