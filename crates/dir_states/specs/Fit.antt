-- Where leaves stand, and which leaves can be those of a table.
use Rattle.std.specs.Prelude.{◌≡◌, ℕ, ◌+◌, ◌^◌, set, ◌<◌, ◌≤◌, nat_lt, Bool, true, false, List, [], ◌∷◌, length, map, slice_index_or}
use Rattle.std.specs.List.{insert}
use Rattle.plain_map.specs.declared.rules.Rules.{Rules}
use Rattle.bucket_states.specs.States.{BucketState, state_of}
use Rattle.table_model.specs.Leaves as M
use Rattle.table_model.specs.Leaves.{first_class}
use Rattle.dir_states.specs.declared.values.NewLeaf.{NewLeaf}
use Rattle.dir_states.specs.Views.{as_leaf}

-- the first element that passes the test stands here
pub record IsFirst {X : Type 0} (test : X → Bool) (xs : List X) (at : ℕ) : Type 0 where
  pub in_range : at < length xs
  pub passes : (d : X) → test (slice_index_or xs at d) ≡ true
  pub before : (k : ℕ) (d : X) → k < at → test (slice_index_or xs k d) ≡ false

-- no element passes the test
abbrev pub NonePasses : {X : Type 0} → (X → Bool) → List X → Type 0
NonePasses {X} test xs = (k : ℕ) (d : X) → k < length xs → test (slice_index_or xs k d) ≡ false

-- the one leaf comes before the other
abbrev pub is_before : Rules → NewLeaf → NewLeaf → Bool
is_before rules leaf other = nat_lt (first_class rules (state_of leaf.bucket))
    (first_class rules (state_of other.bucket))

-- the depth and the prefix of a bucket go together, it can be split, and it has a number and a reply for each seat
pub record CanSplit (greatest seats : ℕ) (bucket : BucketState) : Type 0 where
  pub depth : bucket.depth < greatest
  pub prefix : bucket.prefix < 2 ^ bucket.depth
  pub applied : length bucket.applied ≡ seats
  pub replies : length bucket.replies ≡ seats

-- the depth and the prefix of a leaf go together, and it has a number and a reply for each seat
pub record IsFit (greatest seats : ℕ) (leaf : M.NewLeaf) : Type 0 where
  pub depth : leaf.bucket.depth ≤ greatest
  pub prefix : leaf.bucket.prefix < 2 ^ leaf.bucket.depth
  pub applied : length leaf.bucket.applied ≡ seats
  pub replies : length leaf.bucket.replies ≡ seats

-- so are all of these
abbrev pub AreFit : (greatest seats : ℕ) → List M.NewLeaf → Type 0
AreFit greatest seats [] = Unit {0}
AreFit greatest seats (leaf ∷ leaves) = IsFit greatest seats leaf × AreFit greatest seats leaves

-- these leaves are made, or not all of them are fit
abbrev pub MakesLeaves : (greatest seats : ℕ) → List M.NewLeaf → List NewLeaf → Bool → Type 0
MakesLeaves greatest seats due leaves false = ¬ AreFit greatest seats due
MakesLeaves greatest seats due leaves true = map as_leaf leaves ≡ due

-- the leaf at a place became its two parts
pub record AreHalves (rules : Rules) (place : ℕ) (was now : List NewLeaf) : Type 0 where
  pub lower : NewLeaf
  pub upper : NewLeaf
  pub parts : (d : NewLeaf) → M.halves rules (as_leaf (slice_index_or was place d)) ≡ as_leaf lower ∷ as_leaf upper ∷ []
  pub now_are : now ≡ insert (set was place lower) (place + 1) upper
