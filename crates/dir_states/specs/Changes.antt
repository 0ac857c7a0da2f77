-- What a change shows, and its room.
use Rattle.std.specs.Prelude.{◌≡◌, ℕ, ◌≤◌, List, All, map, vec_len, vec_capacity, ◌+◌}
use Rattle.bucket_states.specs.States.{HasRoom}
use Rattle.table_model.specs.Directories.{DirectoryState}
use Rattle.table_model.specs.Leaves as M
use Rattle.dir_states.specs.declared.changes.Change.{Change}
use Rattle.dir_states.specs.Rooms.{HasPlaces, most_leaves}
use Rattle.dir_states.specs.Views.{as_directory, as_leaf}

-- the new directory
abbrev pub directory_of : Change → DirectoryState
directory_of change = as_directory change.state

-- the new leaves
abbrev pub leaves_of : Change → List M.NewLeaf
leaves_of change = map as_leaf change.leaves.made.items

-- for how many seats there is room
abbrev pub seats_of : Change → ℕ
seats_of change = change.seats

-- and for how many items of a bucket
abbrev pub items_of : Change → ℕ
items_of change = change.items

-- a change of so many seats, items and bits finds room
pub record ChangeHasRoom (seats items depth : ℕ) (change : Change) : Type 0 where
  pub for_seats : change.seats ≡ seats
  pub for_items : change.items ≡ items
  pub for_depth : change.depth ≡ depth
  pub shallow : depth ≤ 12
  pub places : HasPlaces depth change.state
  pub made : All (λ leaf. HasRoom seats items leaf.bucket) change.leaves.made.items
  pub spare : All (λ leaf. HasRoom seats items leaf.bucket) change.leaves.spare.items
  pub all : vec_len change.leaves.made + vec_len change.leaves.spare ≡ most_leaves seats depth
  pub made_room : most_leaves seats depth ≤ vec_capacity change.leaves.made
  pub spare_room : most_leaves seats depth ≤ vec_capacity change.leaves.spare
