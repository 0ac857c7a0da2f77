-- New leaves, and the two small steps of which each change of a directory is made: a split, and the answer to one call.
-- A list of leaves is in the order of their prefixes as bit strings, and no two leaves share a key.
-- Source: this project's own; the split is that of Fagin and others, "Extendible hashing", 1979.
use Rattle.std.specs.Prelude.{ℕ, zero, suc, ◌-◌, ◌*◌, ◌^◌, ◌==◌, nat_lt, Bool, ◌&&◌, if◌then◌else◌, List, [], ◌∷◌, ◌++◌, Option, find}
use Rattle.std.specs.List.{list_any}
use Rattle.plain_map.specs.declared.keys.Key.{Key}
use Rattle.plain_map.specs.declared.rules.Rules.{Rules}
use Rattle.plain_map.specs.declared.calls.Call.{Call}
use Rattle.plain_map.specs.Calls.{key_in}
use Rattle.bucket_states.specs.declared.ops.Op.{Op}
use Rattle.bucket_states.specs.Items.{prefix_of, overflows}
use Rattle.bucket_states.specs.States.{BucketState}
use Rattle.bucket_states.specs.Change.{answered}
pub use Rattle.bucket_states.specs.Halves.{half}

-- a bucket that is made, and the number of the bucket that it comes from, or none at an opening
pub record NewLeaf : Type 0 where
  pub from : Option ℕ
  pub bucket : BucketState

-- the key has the bucket's prefix
abbrev pub is_in : Rules → Key → BucketState → Bool
is_in rules key bucket = prefix_of rules bucket.depth key == bucket.prefix

-- the leaf of a key
abbrev pub leaf_of : Rules → Key → List NewLeaf → Option NewLeaf
leaf_of rules key leaves = find (λ leaf. is_in rules key leaf.bucket) leaves

-- both parts
abbrev pub halves : Rules → NewLeaf → List NewLeaf
halves rules leaf = record leaf { bucket = half rules 0 leaf.bucket } ∷ record leaf {
  bucket =
      half rules 1 leaf.bucket;
} ∷ []

-- the leaves with these in place of the leaf of the key
abbrev pub at_leaf : Rules → Key → (NewLeaf → List NewLeaf) → List NewLeaf → List NewLeaf
at_leaf rules key f [] = []
at_leaf rules key f (leaf ∷ leaves) =
    if is_in rules key leaf.bucket then f leaf ++ leaves else leaf ∷ at_leaf rules key f leaves

-- the small step Split: the leaf of the key becomes its two parts
unfoldable pub split : Rules → Key → List NewLeaf → List NewLeaf
split rules key leaves = at_leaf rules key (halves rules) leaves

-- the small step Apply: the op is answered in the leaf of its key
unfoldable pub apply : Rules → (seat : ℕ) → Op → List NewLeaf → List NewLeaf
apply rules seat op leaves =
    at_leaf rules (key_in op.call) (λ leaf. record leaf { bucket = answered rules leaf.bucket seat op } ∷ []) leaves

-- the call brings a new key, and the leaf of its key has no place and can be split
abbrev pub must_split : Rules → Call → List NewLeaf → Bool
must_split rules call leaves =
    list_any (λ leaf. is_in rules (key_in call) leaf.bucket
    && overflows rules leaf.bucket.depth leaf.bucket.items call) leaves

-- the leaf of the call's key is split as long as it must be, and at most so often
abbrev pub split_for : Rules → Call → (most : ℕ) → List NewLeaf → List NewLeaf
split_for rules call zero leaves = leaves
split_for rules call (suc most) leaves =
    if must_split rules call leaves then split_for rules call most (split rules (key_in call) leaves) else leaves

-- the first class of a bucket: its prefix, and zeros up to the greatest depth
abbrev pub first_class : Rules → BucketState → ℕ
first_class rules bucket = bucket.prefix * 2 ^ (rules.depth - bucket.depth)

-- one more leaf, at its place in the order
abbrev pub add_leaf : Rules → NewLeaf → List NewLeaf → List NewLeaf
add_leaf rules leaf [] = leaf ∷ []
add_leaf rules leaf (other ∷ leaves) =
    if nat_lt (first_class rules leaf.bucket) (first_class rules other.bucket) then leaf ∷ other ∷ leaves
    else other ∷ add_leaf rules leaf leaves
