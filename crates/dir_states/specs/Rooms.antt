-- The room of a directory, and of the leaves of a change.
use Rattle.std.specs.Prelude.{◌≡◌, ℕ, ◌+◌, ◌*◌, ◌^◌, ◌≤◌, length, All, vec_len, vec_capacity}
use Rattle.plain_map.specs.PlainObject.{InRange}
use Rattle.bucket_states.specs.States.{HasRoom}
use Rattle.dir_states.specs.declared.directory.DirState.{DirState}
use Rattle.dir_states.specs.declared.leaves.Leaves.{Leaves}
use Rattle.dir_states.specs.declared.leaves.Table.{Table}
use Rattle.dir_states.specs.declared.values.Loaded.{Loaded}
use Rattle.dir_states.specs.declared.values.NewLeaf.{NewLeaf}
use Rattle.dir_states.specs.Fit.{IsFit}
use Rattle.dir_states.specs.Views.{as_leaf}

-- there is room for a directory of this depth
abbrev pub HasPlaces : (depth : ℕ) → DirState → Type 0
HasPlaces depth directory = 2 ^ depth ≤ vec_capacity directory.entries

-- a bucket of a table finds room in the leaf
abbrev pub HasLeafRoom : Table → NewLeaf → Type 0
HasLeafRoom table leaf = HasRoom table.seats table.items leaf.bucket

-- a leaf that was made, and can be split and answered in its room
pub record IsMade (table : Table) (leaf : NewLeaf) : Type 0 where
  pub fit : IsFit table.rules.depth table.seats (as_leaf leaf)
  pub few : length leaf.bucket.items.items ≤ table.items
  pub room : HasLeafRoom table leaf

-- the rules can be those of a table, and no bucket has more items than a leaf has room for
pub record IsTable (table : Table) : Type 0 where
  pub range : InRange table.rules
  pub items : table.rules.items ≤ table.items

-- the leaves that were made and the spare ones are all that there are, and each of them has its room
pub record AreKept (table : Table) (leaves : Leaves) : Type 0 where
  pub made : All (IsMade table) leaves.made.items
  pub spare : All (HasLeafRoom table) leaves.spare.items
  pub all : vec_len leaves.made + vec_len leaves.spare ≡ table.most
  pub made_room : table.most ≤ vec_capacity leaves.made
  pub spare_room : table.most ≤ vec_capacity leaves.spare

-- each leaf that was made or is spare has its room
pub record HasRooms (table : Table) (leaves : Leaves) : Type 0 where
  pub made : All (HasLeafRoom table) leaves.made.items
  pub spare : All (HasLeafRoom table) leaves.spare.items
  pub all : vec_len leaves.made + vec_len leaves.spare ≡ table.most
  pub made_room : table.most ≤ vec_capacity leaves.made
  pub spare_room : table.most ≤ vec_capacity leaves.spare

-- no bucket that was loaded has more items than a leaf has room for
abbrev pub HasItems : (items : ℕ) → Loaded → Type 0
HasItems items loaded = length loaded.state.items.items ≤ items

-- how many leaves there is room for: each op gives the two parts of its bucket, and a leaf for each split; and one more
-- is there while a leaf is split
abbrev pub most_leaves : (seats depth : ℕ) → ℕ
most_leaves seats depth = seats * (depth + 2) + 1
