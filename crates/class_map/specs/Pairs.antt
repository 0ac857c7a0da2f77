-- Pairs that are held.
use Rattle.std.specs.Prelude.{◌≡◌, List, map, All, Some}
use Rattle.std.specs.FinMap.{get}
use Rattle.std.specs.FinMap.Entries.{find}
use Rattle.plain_map.specs.declared.keys.Pair.{Pair}
use Rattle.plain_map.specs.Keys.{entry_of, held_in, key_cmp}
use Rattle.plain_map.specs.PlainObject.{Sessions, pairs_of}

-- the pair is one of these
abbrev pub IsIn : List Pair → Pair → Type 0
IsIn pairs pair = find key_cmp pair.key (map entry_of pairs) ≡ Some (held_in pair)

-- the sessions have the pair
abbrev pub IsHeld : Sessions → Pair → Type 0
IsHeld sessions pair = get sessions pair.key ≡ Some (held_in pair)

-- all that is held is among these
abbrev pub AreAmong : List Pair → Sessions → Type 0
AreAmong pairs sessions = All (IsIn pairs) (pairs_of sessions)
