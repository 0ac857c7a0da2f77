-- What an opening shows, its room, and how its pairs are counted.
use Rattle.std.specs.Prelude.{◌≡◌, ℕ, zero, suc, ◌+◌, ◌^◌, ◌<◌, ◌≤◌, ◌==◌, List, All, None, count_by, length, map, replicate, slice_index_or, vec_len, vec_capacity}
use Rattle.plain_map.specs.declared.keys.Pair.{Pair}
use Rattle.plain_map.specs.declared.rules.Rules.{Rules}
use Rattle.plain_map.specs.PlainObject.{class_of}
use Rattle.table_model.specs.Directories.{DirectoryState}
use Rattle.table_model.specs.Leaves as M
use Rattle.dir_states.specs.declared.leaves.Leaves.{Leaves}
use Rattle.dir_states.specs.declared.openings.Opening.{Opening}
use Rattle.dir_states.specs.declared.values.NewLeaf.{NewLeaf}
use Rattle.dir_states.specs.Rooms.{HasPlaces}
use Rattle.dir_states.specs.Views.{as_directory, as_leaf}

-- the directory
abbrev pub first_directory : Opening → DirectoryState
first_directory opening = as_directory opening.state

-- the leaves
abbrev pub first_leaves : Opening → List M.NewLeaf
first_leaves opening = map as_leaf opening.leaves.made.items

-- for how many seats there is room
abbrev pub opening_seats : Opening → ℕ
opening_seats opening = opening.seats

-- a leaf that no update is in, with room for so many items
pub record IsOpen (seats items : ℕ) (leaf : NewLeaf) : Type 0 where
  pub applied : leaf.bucket.applied.items ≡ replicate seats 0
  pub replies : leaf.bucket.replies.items ≡ replicate seats None
  pub room : items ≤ vec_capacity leaf.bucket.items

-- the leaves that were made and the spare ones are all that there are, and each of them is open
pub record AreOpen (seats items most : ℕ) (leaves : Leaves) : Type 0 where
  pub made : All (IsOpen seats items) leaves.made.items
  pub spare : All (IsOpen seats items) leaves.spare.items
  pub all : vec_len leaves.made + vec_len leaves.spare ≡ most
  pub made_room : most ≤ vec_capacity leaves.made
  pub spare_room : most ≤ vec_capacity leaves.spare

-- an opening of so many seats, items and bits finds room
pub record OpeningHasRoom (seats items depth : ℕ) (opening : Opening) : Type 0 where
  pub for_seats : opening.seats ≡ seats
  pub shallow : depth ≤ 12
  pub places : HasPlaces depth opening.state
  pub base_places : HasPlaces depth opening.base
  pub counts : 2 ^ depth ≤ vec_capacity opening.counts
  pub leaves : AreOpen seats items (2 ^ depth) opening.leaves

-- how many of these pairs are in the class
abbrev pub class_count : Rules → List Pair → (class : ℕ) → ℕ
class_count rules pairs class = count_by (λ pair. class_of rules pair.key == class) pairs

-- the pairs are counted class by class
pub record AreCounted (rules : Rules) (pairs : List Pair) (counts : List ℕ) : Type 0 where
  pub long : length counts ≡ 2 ^ rules.depth
  pub each : (class none : ℕ) → class < 2 ^ rules.depth →
      slice_index_or counts class none ≡ class_count rules pairs class

-- the sum of so many counts, from this one on
abbrev pub span : List ℕ → (low count : ℕ) → ℕ
span counts low zero = 0
span counts low (suc count) = slice_index_or counts low 0 + span counts (suc low) count
