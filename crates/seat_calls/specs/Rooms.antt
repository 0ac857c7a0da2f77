-- The room of a directory try.
use Rattle.std.specs.Prelude.{◌≡◌, All, vec_len}
use Rattle.step_counts.specs.declared.settings.Settings.{Settings}
use Rattle.plain_map.specs.Rows.{HasBucketRoom}
use Rattle.bucket_states.specs.States.{HasRoom}
use Rattle.dir_states.specs.Changes.{ChangeHasRoom}
use Rattle.dir_states.specs.Rooms.{HasPlaces}
use Rattle.dir_states.specs.declared.values.Loaded.{Loaded}
use Rattle.seat_calls.specs.declared.room.Room.{Room}

-- a bucket of a table finds room
abbrev pub HasLoadedRoom : Settings → Loaded → Type 0
HasLoadedRoom settings loaded = HasRoom settings.seats settings.items loaded.state

-- the room is enough for every try at a table of these settings
pub record HasAllRoom (settings : Settings) (room : Room) : Type 0 where
  pub directory : HasPlaces settings.depth room.directory
  pub row : HasBucketRoom settings.seats settings.items room.row
  pub each : All (HasLoadedRoom settings) room.loaded.items
  pub all : vec_len room.loaded ≡ settings.seats
  pub change : ChangeHasRoom settings.seats settings.items settings.depth room.change
