-- How the fields of a shelf of a lasting table give its value.
use Rattle.std.specs.Prelude.{◌≡◌, All, vec_capacity}
use Rattle.std.specs.Arc.{arc_value}
use Rattle.lasting_table.specs.Values.{IsPartyOf}
use Rattle.flowdir_c.specs.declared.lasting_shelf.LastingShelf.TheInside as shelf
use Rattle.flowdir_c.specs.LastingShelves.{LastingValue}

-- what contracts see of a shelf
abbrev pub lasting_value : shelf.Inside → LastingValue
lasting_value s = record { table = arc_value s.table; free = s.free.items; places = vec_capacity s.free }

-- its seats are those of its table, and the settings its own
pub record LastingStands (s : shelf.Inside) : Type 0 where
  pub of : All (IsPartyOf (arc_value s.table)) s.free.items
  pub sized : s.settings ≡ (arc_value s.table).plan.settings
