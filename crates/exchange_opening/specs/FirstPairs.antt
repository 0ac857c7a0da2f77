-- The pairs that find no room, of those that a table is to begin with.
use Rattle.std.specs.Prelude.{ℕ, ◌+◌, Bool, true, false, if◌then◌else◌, List, [], ◌∷◌, ◌++◌}
use Rattle.std.specs.FinMap.{empty}
use Rattle.plain_map.specs.declared.calls.Call.{Call}
use Rattle.plain_map.specs.declared.calls.Call.TheVariants.{Insert}
use Rattle.plain_map.specs.declared.calls.Reply.{Reply}
use Rattle.plain_map.specs.declared.calls.Reply.TheVariants.{NoRoom}
use Rattle.plain_map.specs.declared.keys.Pair.{Pair}
use Rattle.plain_map.specs.declared.rules.Rules.{Rules}
use Rattle.plain_map.specs.PlainObject.{Sessions, map_after, reply_of}

-- the call by which a pair is brought
abbrev pub bringing : Pair → Call
bringing pair = Insert pair.key pair.value

-- the reply tells that there was no room
abbrev pub tells_no_room : Reply → Bool
tells_no_room NoRoom = true
tells_no_room _ = false

-- the plain map has no room for the pair, where it holds these sessions
abbrev pub lacks_room : Rules → Sessions → Pair → Bool
lacks_room rules sessions pair = tells_no_room (reply_of rules sessions (bringing pair))

-- the places of the pairs that find no room, where these are brought one after the other to these sessions; the first
-- of them has this place
abbrev pub places_without_room_from : Rules → Sessions → (place : ℕ) → List Pair → List ℕ
places_without_room_from rules sessions place [] = []
places_without_room_from rules sessions place (pair ∷ pairs) =
    (if lacks_room rules sessions pair then place ∷ [] else [])
    ++ places_without_room_from rules (map_after rules sessions (bringing pair)) (place + 1) pairs

-- the same where they are brought to the empty map, counted from 0
abbrev pub places_without_room : Rules → List Pair → List ℕ
places_without_room rules pairs = places_without_room_from rules empty 0 pairs
