-- The laws of the opening: its leaves cover all hashes, hold the first pairs, and are deep only where they must be.
use Rattle.std.specs.Prelude.{◌≡◌, ℕ, ◌^◌, ◌<◌, ◌≤◌, false, List, [], length, None, IfSome, slice_get, slice_index_or, map, All}
use Rattle.plain_map.specs.declared.keys.Pair.{Pair}
use Rattle.plain_map.specs.declared.rules.Rules.{Rules}
use Rattle.plain_map.specs.declared.leaves.Leaf.{Leaf}
use Rattle.plain_map.specs.PlainObject.{InRange}
use Rattle.plain_map.specs.Updates.{IsSmallPair}
use Rattle.bucket_states.specs.Parts.{HasDistinctKeys, HoldsPart}
use Rattle.bucket_states.specs.Values.{IsSmall}
use Rattle.bucket_states.specs.Laws.{IsGood, applied_of}
use Rattle.table_model.specs.Setup.{HaveRoom}
use Rattle.table_model.specs.Leaves.{NewLeaf}
use Rattle.table_model.specs.Opening.{opening_leaves, opening_directory}
use Rattle.table_model.specs.DirectoryLaws.{StandsIn}
use Rattle.table_model.specs.Closed.{Cover, Warranted, sessions_with}

-- a table can be opened with these pairs from this depth on
pub record CanOpen (rules : Rules) (start : ℕ) (first : List Pair) : Type 0 where
  pub range : InRange rules
  pub within : start ≤ rules.depth
  pub distinct : HasDistinctKeys first
  pub room : HaveRoom rules first

-- the prefix and the depth of a new leaf
abbrev pub place_of : NewLeaf → Leaf
place_of leaf = record { prefix = leaf.bucket.prefix; depth = leaf.bucket.depth }

-- what the opening's leaves are
pub record IsOpening (rules : Rules) (seats start : ℕ) (first : List Pair) (leaves : List NewLeaf) : Type 0 where
  pub cover : Cover (map place_of leaves)
  pub good : All (λ leaf. IsGood rules seats leaf.bucket × (leaf.bucket.frozen ≡ false) × (leaf.from ≡ None)) leaves
  pub unused : All (λ leaf. (seat : ℕ) → applied_of leaf.bucket seat ≡ 0) leaves
  pub small : All IsSmallPair first → All (λ leaf. IsSmall leaf.bucket) leaves
  pub holds : All (λ leaf. HoldsPart rules leaf.bucket.prefix leaf.bucket.depth leaf.bucket.items
      (sessions_with rules first)) leaves
  pub few : length leaves ≤ 2 ^ rules.depth
  pub stand : (i : ℕ) → IfSome (slice_get leaves i) (λ leaf. StandsIn (opening_directory start leaves) i leaf.bucket)
  pub deep : All (λ leaf. start ≤ leaf.bucket.depth) leaves
  pub warranted : Warranted rules start first [] (map place_of leaves)

abbrev pub OpeningIsRight : Type 0
OpeningIsRight =
    (rules : Rules) (seats start : ℕ) (first : List Pair) → CanOpen rules start first →
    IsOpening rules seats start first (opening_leaves rules seats start first)

-- the depth of the first directory is that of one of its leaves
abbrev pub OpeningDepthIsOfOne : Type 0
OpeningDepthIsOfOne =
    (rules : Rules) (seats start : ℕ) (first : List Pair) → CanOpen rules start first →
    (let leaves = opening_leaves rules seats start first in
    (i : ℕ) × (i < length leaves)
    × ((d : NewLeaf) → (slice_index_or leaves i d).bucket.depth ≡ (opening_directory start leaves).depth))

-- over no pairs there is one leaf for each place of the starting depth
abbrev pub OpeningOfNone : Type 0
OpeningOfNone =
    (rules : Rules) (seats start : ℕ) →
    (length (opening_leaves rules seats start []) ≡ 2 ^ start)
    × All (λ leaf. leaf.bucket.depth ≡ start) (opening_leaves rules seats start [])
