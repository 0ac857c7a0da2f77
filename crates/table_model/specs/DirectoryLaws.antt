-- The laws of the directory change: which hashes the new leaves take, what they keep of the buckets that they come
-- from, and that the sessions which they hold are those of the plain object.
-- Source: this project's own; a directory and its buckets are those of Fagin and others, "Extendible hashing", 1979.
use Rattle.std.specs.Prelude.{◌≡◌, ℕ, suc, ◌+◌, ◌-◌, ◌*◌, ◌/◌, ◌^◌, ◌<◌, ◌≤◌, ◌==◌, ◌↔◌, ◌⊎◌, ◌≢◌, Bool, true, false, if◌then◌else◌, List, [], ◌∷◌, ◌++◌, length, Option, Some, None, IsSomeAnd, IfSome, slice_get, slice_index, slice_index_or, count_by, position, All}
use Rattle.std.specs.List.{list_any}
use Rattle.hash_bits.specs.Prefix.{first_bits}
use Rattle.plain_map.specs.declared.rules.Rules.{Rules}
use Rattle.plain_map.specs.Calls.{key_in}
use Rattle.plain_map.specs.PlainObject.{InRange, Sessions, reply_of, map_after}
use Rattle.bucket_states.specs.declared.ops.Op.{Op}
use Rattle.bucket_states.specs.Halves.{half}
use Rattle.bucket_states.specs.Parts.{HoldsPart}
use Rattle.bucket_states.specs.States.{BucketState}
use Rattle.bucket_states.specs.Values.{AreUpdates, IsSmall}
use Rattle.bucket_states.specs.Laws.{IsGood, IsUntouched, Announces, Taken, applied_of, reply_at, sessions_after_taken}
use Rattle.table_model.specs.Directories.{DirectoryState, bucket_of}
use Rattle.table_model.specs.Leaves.{NewLeaf, is_in, leaf_of}
use Rattle.table_model.specs.DirectoryChange.{LoadedBucket, loaded_of, is_frozen_without, comes_from, change_leaves, with_leaves}
use Rattle.table_model.specs.Closed.{keys_with_prefix}

-- the bucket with this number and state stands in the directory at exactly the places whose first bits are its prefix
pub record StandsIn (directory : DirectoryState) (bucket : ℕ) (state : BucketState) : Type 0 where
  pub shallow : state.depth ≤ directory.depth
  pub places : (place : ℕ) → place < 2 ^ directory.depth →
      (slice_index directory.entries place ≡ bucket) ↔ (place / 2 ^ (directory.depth - state.depth) ≡ state.prefix)

-- the directory can be changed by these ops: the bucket of each is loaded, is good and stands in it
pub record CanChange (rules : Rules) (seats : ℕ) (directory : DirectoryState) (loaded : List LoadedBucket)
    (ops : List (Option Op)) : Type 0 where
  pub range : InRange rules
  pub within : directory.depth ≤ rules.depth
  pub places : length directory.entries ≡ 2 ^ directory.depth
  pub each_seat : length ops ≡ seats
  pub good : All (λ l. IsGood rules seats l.state) loaded
  pub stand : All (λ l. StandsIn directory l.bucket l.state) loaded
  pub each_op : (seat : ℕ) (op : Op) → Announces ops seat op →
      IsSomeAnd (loaded_of loaded (bucket_of rules directory (key_in op.call))) (λ _. Unit {0})

-- the leaf has the hash
abbrev pub takes_hash : (hash : ℕ) → NewLeaf → Bool
takes_hash hash leaf = first_bits hash leaf.bucket.depth == leaf.bucket.prefix

-- the bucket is replaced: a leaf comes from it
abbrev pub is_replaced : (bucket : ℕ) → List NewLeaf → Bool
is_replaced bucket leaves = list_any (comes_from bucket) leaves

-- exactly the hashes of the replaced buckets have a new leaf, and each has one
abbrev pub LeavesTakeHashes : Type 0
LeavesTakeHashes =
    (rules : Rules) (seats hash : ℕ) (directory : DirectoryState) (loaded : List LoadedBucket)
    (ops : List (Option Op)) →
    CanChange rules seats directory loaded ops → hash < 2 ^ 64 →
    (let leaves = change_leaves rules directory loaded ops in
    let bucket = slice_index directory.entries (first_bits hash directory.depth) in
    count_by (takes_hash hash) leaves ≡ (if is_replaced bucket leaves then 1 else 0))

-- the new directory names for each hash the leaf that has it, and else the bucket that it named
abbrev pub DirectoryNamesLeaves : Type 0
DirectoryNamesLeaves =
    (rules : Rules) (seats hash fresh : ℕ) (directory : DirectoryState) (loaded : List LoadedBucket)
    (ops : List (Option Op)) →
    CanChange rules seats directory loaded ops → hash < 2 ^ 64 →
    (let leaves = change_leaves rules directory loaded ops in
    let now = with_leaves fresh leaves directory in
    let bucket = slice_index directory.entries (first_bits hash directory.depth) in
    (is_replaced bucket leaves ≡ false → slice_index now.entries (first_bits hash now.depth) ≡ bucket)
    × IfSome (position (takes_hash hash) leaves) (λ i. slice_index now.entries (first_bits hash now.depth) ≡ fresh + i))

-- the op of a seat, where its bucket was loaded frozen without it
abbrev pub taken_if : (seat : ℕ) → Op → Option LoadedBucket → List Taken
taken_if seat op None = []
taken_if seat op (Some l) = if is_frozen_without seat op l then record { seat = seat; op = op } ∷ [] else []

abbrev pub taken_by_seat : Rules → DirectoryState → List LoadedBucket → (seat : ℕ) → Option Op → List Taken
taken_by_seat rules directory loaded seat None = []
taken_by_seat rules directory loaded seat (Some op) =
    taken_if seat op (loaded_of loaded (bucket_of rules directory (key_in op.call)))

abbrev pub taken_from : Rules → DirectoryState → List LoadedBucket → (seat : ℕ) → List (Option Op) → List Taken
taken_from rules directory loaded seat [] = []
taken_from rules directory loaded seat (op ∷ ops) =
    taken_by_seat rules directory loaded seat op ++ taken_from rules directory loaded (suc seat) ops

-- the ops that the change takes, in the order of the seats
abbrev pub taken : Rules → DirectoryState → List LoadedBucket → List (Option Op) → List Taken
taken rules directory loaded ops = taken_from rules directory loaded 0 ops

-- the new directory names for a hash a leaf that has it, where the bucket that it named is replaced
abbrev pub ReplacedAreLeft : Type 0
ReplacedAreLeft =
    (rules : Rules) (seats hash fresh : ℕ) (directory : DirectoryState) (loaded : List LoadedBucket)
    (ops : List (Option Op)) →
    CanChange rules seats directory loaded ops → hash < 2 ^ 64 →
    (let leaves = change_leaves rules directory loaded ops in
    let now = with_leaves fresh leaves directory in
    is_replaced (slice_index directory.entries (first_bits hash directory.depth)) leaves ≡ true →
    (i : ℕ) × (i < length leaves) × (slice_index now.entries (first_bits hash now.depth) ≡ fresh + i))

-- the new directory is one, and no deeper than it may be. Where the new numbers were not named, each new leaf stands in
-- it, each bucket that is not replaced still does, and the replaced ones are not named
abbrev pub DirectoryStaysRight : Type 0
DirectoryStaysRight =
    (rules : Rules) (seats fresh : ℕ) (directory : DirectoryState) (loaded : List LoadedBucket)
    (ops : List (Option Op)) →
    CanChange rules seats directory loaded ops →
    (let leaves = change_leaves rules directory loaded ops in
    let now = with_leaves fresh leaves directory in
    (now.depth ≤ rules.depth) × (length now.entries ≡ 2 ^ now.depth)
    × (All (λ number. (number < fresh) ⊎ (fresh + length leaves ≤ number)) directory.entries →
    ((i : ℕ) → IfSome (slice_get leaves i) (λ leaf. StandsIn now (fresh + i) leaf.bucket))
    × All (λ l. is_replaced l.bucket leaves ≡ false → StandsIn now l.bucket l.state) loaded
    × All (λ l. is_replaced l.bucket leaves ≡ true → All (λ number. number ≢ l.bucket) now.entries) loaded))

-- a bucket that stands in the directory, whether it was loaded or not, stands in the new one where it is not replaced
abbrev pub BucketsStay : Type 0
BucketsStay =
    (rules : Rules) (seats fresh bucket : ℕ) (state : BucketState) (directory : DirectoryState)
    (loaded : List LoadedBucket) (ops : List (Option Op)) →
    CanChange rules seats directory loaded ops →
    (let leaves = change_leaves rules directory loaded ops in
    All (λ number. (number < fresh) ⊎ (fresh + length leaves ≤ number)) directory.entries →
    IsGood rules seats state → StandsIn directory bucket state → is_replaced bucket leaves ≡ false →
    StandsIn (with_leaves fresh leaves directory) bucket state)

-- the depth of the new directory is that of a new leaf; or it is the old one, and no bucket of that depth is replaced
abbrev pub DepthIsOfOne : Type 0
DepthIsOfOne =
    (rules : Rules) (seats fresh : ℕ) (directory : DirectoryState) (loaded : List LoadedBucket)
    (ops : List (Option Op)) →
    CanChange rules seats directory loaded ops →
    (let leaves = change_leaves rules directory loaded ops in
    let now = with_leaves fresh leaves directory in
    ((i : ℕ) × (i < length leaves) × ((d : NewLeaf) → (slice_index_or leaves i d).bucket.depth ≡ now.depth))
    ⊎ ((now.depth ≡ directory.depth)
    × ((bucket : ℕ) → ((l : LoadedBucket) → loaded_of loaded bucket ≡ Some l → l.state.depth ≡ directory.depth) →
    is_replaced bucket leaves ≡ false)))

-- a leaf is a good bucket that is not frozen, and its prefix goes on from that of the frozen bucket that it comes from
pub record IsLeafOf (rules : Rules) (seats : ℕ) (loaded : List LoadedBucket) (leaf : NewLeaf)
    (l : LoadedBucket) : Type 0 where
  pub from : leaf.from ≡ Some l.bucket
  pub found : loaded_of loaded l.bucket ≡ Some l
  pub was_frozen : l.state.frozen ≡ true
  pub good : IsGood rules seats leaf.bucket
  pub open_ : leaf.bucket.frozen ≡ false
  pub deeper : l.state.depth < leaf.bucket.depth
  pub prefix : leaf.bucket.prefix / 2 ^ (leaf.bucket.depth - l.state.depth) ≡ l.state.prefix

-- and each seat's number and reply are those of that bucket, or the number is that of the seat's op, which the change
-- took: the bucket is that of the op's key, and had a smaller number; and the reply is that of the leaf of the key
pub record HasNumberOf (rules : Rules) (directory : DirectoryState) (loaded : List LoadedBucket)
    (ops : List (Option Op)) (leaves : List NewLeaf)
    (leaf : NewLeaf) (l : LoadedBucket) (seat : ℕ) (op : Op) : Type 0 where
  pub announced : Announces ops seat op
  pub taken : taken_by_seat rules directory loaded seat (Some op) ≢ []
  pub for_it : bucket_of rules directory (key_in op.call) ≡ l.bucket
  pub above : applied_of l.state seat < op.number
  pub number : applied_of leaf.bucket seat ≡ op.number
  pub reply :
      IsSomeAnd (leaf_of rules (key_in op.call) leaves) (λ own. reply_at leaf.bucket seat ≡ reply_at own.bucket seat)

abbrev pub LeavesAreGood : Type 0
LeavesAreGood =
    (rules : Rules) (seats : ℕ) (directory : DirectoryState) (loaded : List LoadedBucket) (ops : List (Option Op)) →
    CanChange rules seats directory loaded ops →
    (let leaves = change_leaves rules directory loaded ops in
    All
    (λ leaf. (l : LoadedBucket) × IsLeafOf rules seats loaded leaf l
    × ((seat : ℕ) → seat < seats →
    IsUntouched l.state leaf.bucket seat ⊎ ((op : Op) × HasNumberOf rules directory loaded ops leaves leaf l seat op)))
    leaves)

-- what the leaves hold is small, where what was loaded and announced is
abbrev pub LeavesAreSmall : Type 0
LeavesAreSmall =
    (rules : Rules) (seats : ℕ) (directory : DirectoryState) (loaded : List LoadedBucket) (ops : List (Option Op)) →
    CanChange rules seats directory loaded ops → AreUpdates ops → All (λ l. IsSmall l.state) loaded →
    All (λ leaf. IsSmall leaf.bucket) (change_leaves rules directory loaded ops)

-- an announced op whose bucket is replaced is in the leaf of its key
abbrev pub OpsAreCarried : Type 0
OpsAreCarried =
    (rules : Rules) (seats seat : ℕ) (op : Op) (directory : DirectoryState) (loaded : List LoadedBucket)
    (ops : List (Option Op)) →
    CanChange rules seats directory loaded ops → Announces ops seat op →
    is_replaced (bucket_of rules directory (key_in op.call)) (change_leaves rules directory loaded ops) ≡ true →
    IsSomeAnd (leaf_of rules (key_in op.call) (change_leaves rules directory loaded ops))
    (λ leaf. op.number ≤ applied_of leaf.bucket seat)

-- an announced op is in each leaf that has its key
abbrev pub OpsAreInLeaves : Type 0
OpsAreInLeaves =
    (rules : Rules) (seats seat : ℕ) (op : Op) (directory : DirectoryState) (loaded : List LoadedBucket)
    (ops : List (Option Op)) →
    CanChange rules seats directory loaded ops → Announces ops seat op →
    All (λ leaf. is_in rules (key_in op.call) leaf.bucket ≡ true → op.number ≤ applied_of leaf.bucket seat)
    (change_leaves rules directory loaded ops)

-- the bucket of an op is replaced where it was loaded frozen without the op
abbrev pub FrozenAreReplaced : Type 0
FrozenAreReplaced =
    (rules : Rules) (seats seat : ℕ) (op : Op) (directory : DirectoryState) (loaded : List LoadedBucket)
    (ops : List (Option Op)) →
    CanChange rules seats directory loaded ops → Announces ops seat op →
    IfSome (loaded_of loaded (bucket_of rules directory (key_in op.call)))
    (λ l. is_frozen_without seat op l ≡ true → is_replaced l.bucket (change_leaves rules directory loaded ops) ≡ true)

-- each replaced bucket gives at least two leaves, and all together are at most so many for each seat
abbrev pub LeavesAreFew : Type 0
LeavesAreFew =
    (rules : Rules) (seats bucket : ℕ) (directory : DirectoryState) (loaded : List LoadedBucket)
    (ops : List (Option Op)) →
    CanChange rules seats directory loaded ops →
    (let leaves = change_leaves rules directory loaded ops in
    (is_replaced bucket leaves ≡ true → 2 ≤ count_by (comes_from bucket) leaves)
    × (length leaves ≤ seats * (rules.depth + 1)))

-- each taken op has in the leaf of its key the reply of the plain object, asked these calls one after the other
abbrev pub AreAnsweredInLeaves : Rules → Sessions → List NewLeaf → List Taken → Type 0
AreAnsweredInLeaves rules sessions leaves [] = Unit {0}
AreAnsweredInLeaves rules sessions leaves (t ∷ ts) =
    IsSomeAnd (leaf_of rules (key_in t.op.call) leaves) (λ leaf. reply_at leaf.bucket t.seat
    ≡ Some (reply_of rules sessions t.op.call))
    × AreAnsweredInLeaves rules (map_after rules sessions t.op.call) leaves ts

-- the buckets that are replaced hold parts of the sessions. Of the others nothing is asked: an open one may be out of
-- use by then, since an exchange of its word does not hinder that of the root
abbrev pub HoldSessions : Rules → Sessions → List LoadedBucket → List NewLeaf → Type 0
HoldSessions rules sessions loaded leaves =
    All (λ l. is_replaced l.bucket leaves ≡ true →
    HoldsPart rules l.state.prefix l.state.depth l.state.items sessions) loaded

-- then the leaves hold parts of what the plain object holds after the taken ops, and the replies are its
abbrev pub LeavesFold : Type 0
LeavesFold =
    (rules : Rules) (seats : ℕ) (sessions : Sessions) (directory : DirectoryState) (loaded : List LoadedBucket)
    (ops : List (Option Op)) →
    CanChange rules seats directory loaded ops →
    HoldSessions rules sessions loaded (change_leaves rules directory loaded ops) →
    (let leaves = change_leaves rules directory loaded ops in
    let ts = taken rules directory loaded ops in
    All (λ leaf. HoldsPart rules leaf.bucket.prefix leaf.bucket.depth leaf.bucket.items
    (sessions_after_taken rules sessions ts)) leaves
    × AreAnsweredInLeaves rules sessions leaves ts)

-- after some of the taken ops a prefix of this depth above the leaf had as many keys as a bucket may have
pub record WasFull (rules : Rules) (sessions : Sessions) (ts : List Taken) (leaf : NewLeaf) (depth : ℕ) : Type 0 where
  pub front : List Taken
  pub back : List Taken
  pub stage : ts ≡ front ++ back
  pub full :
      keys_with_prefix rules depth (leaf.bucket.prefix / 2 ^ (leaf.bucket.depth - depth))
      (sessions_after_taken rules sessions front) ≡ rules.items

-- that is why there are splits: it is so at each depth from that of the replaced bucket to that of the leaf's parent
abbrev pub SplitsHaveCauses : Type 0
SplitsHaveCauses =
    (rules : Rules) (seats : ℕ) (sessions : Sessions) (directory : DirectoryState) (loaded : List LoadedBucket)
    (ops : List (Option Op)) →
    CanChange rules seats directory loaded ops →
    HoldSessions rules sessions loaded (change_leaves rules directory loaded ops) →
    All
    (λ leaf. (l : LoadedBucket) (depth : ℕ) → IsLeafOf rules seats loaded leaf l → l.state.depth ≤ depth →
    depth < leaf.bucket.depth →
    WasFull rules sessions (taken rules directory loaded ops) leaf depth)
    (change_leaves rules directory loaded ops)

-- the two parts of a bucket hold the sessions that it held, each those of its own prefix
abbrev pub PartsHoldAll : Type 0
PartsHoldAll =
    (rules : Rules) (bit prefix depth : ℕ) (sessions : Sessions) (bucket : BucketState) → InRange rules → bit < 2 →
    bucket.depth < rules.depth →
    HoldsPart rules bucket.prefix bucket.depth bucket.items sessions →
    HoldsPart rules (half rules bit bucket).prefix (half rules bit bucket).depth (half rules bit bucket).items sessions
