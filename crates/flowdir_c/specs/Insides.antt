-- How the fields of a shelf give its value.
use Rattle.std.specs.Prelude.{◌≡◌, ◌≤◌, Option, Some, None, All, IfSome, IsSomeAnd, IsTrue, length, vec_capacity}
use Rattle.std.specs.Arc.{arc_value}
use Rattle.std.specs.declared.sync.Arc.{Arc}
use Rattle.bucket_states.specs.Parts.{HasDistinctKeys}
use Rattle.table_model.specs.Setup.{IsPair, seats_of}
use Rattle.shared_table.specs.Values.{IsOf, TableValue, new_seats}
use Rattle.flowdir_c.specs.declared.shelf.Shelf.TheInside as shelf
use Rattle.flowdir_c.specs.Shelves.{ArePairsOf, ShelfValue, WasLeft}

-- the table that runs, if one does
module _ {Z : Type 0} where
  abbrev pub table_in : Option (Arc TableValue Z) → Option TableValue
  table_in None = None
  table_in (Some d) = Some (arc_value d)

-- what contracts see of a shelf
abbrev pub shelf_value : shelf.Inside → ShelfValue
shelf_value s = record {
  table = table_in s.directory;
  free = length s.fresh.items;
  free_places = vec_capacity s.fresh;
  back = s.back.items;
  places = vec_capacity s.back;
  left = s.left;
  is_listed = s.is_listed;
  pairs = s.pairs.items;
}

-- its seats are those of its table, and there is a place for each; those that nobody has had are its first ones, and
-- new; a run left what it has of a closed one; its pairs are that one's, if they are listed, and can open a table
pub record ShelfStands (s : shelf.Inside) : Type 0 where
  pub new : IfSome (table_in s.directory) (λ t. s.fresh.items ≡ new_seats t 0 (length s.fresh.items))
  pub of : IfSome (table_in s.directory) (λ t. All (IsOf t) s.back.items)
  pub all : IfSome (table_in s.directory) (λ t. s.count ≡ seats_of t.setup)
  pub room : IfSome (table_in s.directory) (λ t. s.count ≤ vec_capacity s.back)
  pub ran : IfSome s.left WasLeft
  pub listed : IsTrue s.is_listed → IsSomeAnd s.left (λ left. ArePairsOf left s.pairs.items)
  pub kept : All IsPair s.pairs.items
  pub distinct : HasDistinctKeys s.pairs.items
