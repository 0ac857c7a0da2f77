-- A table that runs or is closed, as C has it.
use Rattle.std.specs.Prelude.{◌≡◌, ℕ, ◌+◌, ◌<◌, Bool, List, length, Option, Some, IsPermutation}
use Rattle.std.specs.List.Sorted.{IsSortedByKey}
use Rattle.plain_map.specs.declared.keys.Pair.{Pair}
use Rattle.plain_map.specs.declared.rules.Rules.{Rules}
use Rattle.plain_map.specs.Keys.{key_cmp}
use Rattle.table_model.specs.Closed.{closed_pairs}
use Rattle.table_model.specs.Setup.{Setup, rules_of, seats_of}
use Rattle.shared_table.specs.SeatValues.{SeatValue}
use Rattle.shared_table.specs.Values.{ClosedValue, Ran, TableValue}

-- a run of the table with this setup left these words, and each of its seats to one of these
pub record WasLeftTo (setup : Setup) (seats : List SeatValue) (closed : ClosedValue) : Type 0 where
  pub ran : Ran setup closed.words seats
  pub shape : closed.shape ≡ setup.shape

-- and that of some table to some seats
pub record WasLeft (closed : ClosedValue) : Type 0 where
  pub setup : Setup
  pub seats : List SeatValue
  pub left : WasLeftTo setup seats closed

-- these are the pairs that they hold, in the order of their keys
pub record ArePairsOf (closed : ClosedValue) (pairs : List Pair) : Type 0 where
  pub held : IsPermutation (closed_pairs closed.shape closed.words) pairs
  pub sorted : IsSortedByKey (λ (pair : Pair). pair.key) key_cmp pairs

-- what contracts see of it: the table that runs, if one does; how many seats nobody has had yet, which are those of the
-- least numbers, and for how many there is a place; the seats that were given back, and for how many there is a place;
-- what it left, if it is closed; whether its pairs are listed, and those that are
pub record ShelfValue : Type 0 where
  pub table : Option TableValue
  pub free : ℕ
  pub free_places : ℕ
  pub back : List SeatValue
  pub places : ℕ
  pub left : Option ClosedValue
  pub is_listed : Bool
  pub pairs : List Pair

-- what is closed was left by a run of a table with these rules
pub record IsLeftBy (rules : Rules) (shelf : ShelfValue) : Type 0 where
  pub closed : ClosedValue
  pub is : shelf.left ≡ Some closed
  pub setup : Setup
  pub seats : List SeatValue
  pub was : WasLeftTo setup seats closed
  pub rules_are : rules_of setup ≡ rules

-- a table runs, of whose seats one was taken and not given back
pub record HasSeatOut (shelf : ShelfValue) : Type 0 where
  pub table : TableValue
  pub runs : shelf.table ≡ Some table
  pub out : length shelf.back + shelf.free < seats_of table.setup
