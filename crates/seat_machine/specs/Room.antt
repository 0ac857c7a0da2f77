-- The room of a machine, which is made once.
use Rattle.std.specs.Prelude.{◌≡◌, ℕ, ◌+◌, ◌*◌, ◌^◌, ◌<◌, ◌≤◌, All, vec_capacity, vec_len}
use Rattle.step_counts.specs.declared.TheConstants.{OP_WORDS}
use Rattle.step_counts.specs.declared.settings.Settings.{Settings}
use Rattle.step_counts.specs.StepCounts.{bucket_row_words}
use Rattle.plain_map.specs.Rows.{HasBucketRoom}
use Rattle.word_rows.specs.Shape.{AreBelow}
use Rattle.bucket_states.specs.States.{HasRoom}
use Rattle.dir_states.specs.Changes.{ChangeHasRoom}
use Rattle.dir_states.specs.Rooms.{HasItems, HasPlaces, most_leaves}
use Rattle.dir_states.specs.declared.values.Loaded.{Loaded}
use Rattle.seat_machine.specs.declared.machine.Machine.{Machine}
use Rattle.seat_machine.specs.View.{sizes}

-- how many words a directory try stores at most
abbrev pub most_puts : Settings → ℕ
most_puts settings =
    most_leaves settings.seats settings.depth * (1 + bucket_row_words settings) + (2 + 2 ^ settings.depth)

-- a bucket of a table finds room, and no more items are there than it has room for
pub record HasLoadedRoom (settings : Settings) (loaded : Loaded) : Type 0 where
  pub room : HasRoom settings.seats settings.items loaded.state
  pub few : HasItems settings.items loaded

-- each bucket that a directory try loads finds room
pub record HaveLoadedRoom (m : Machine) : Type 0 where
  pub each : All (HasLoadedRoom (sizes m)) m.loaded.items
  pub all : vec_len m.loaded ≡ (sizes m).seats

-- every buffer has its whole room
pub record HasAllRoom (m : Machine) : Type 0 where
  pub seat : m.seat < (sizes m).seats
  pub used : AreBelow (2 ^ 63) m.used
  pub words : bucket_row_words (sizes m) ≤ vec_capacity m.words
  pub ops : OP_WORDS ≤ vec_capacity m.words
  pub seen : (sizes m).seats ≤ vec_capacity m.seen
  pub row : HasBucketRoom (sizes m).seats (sizes m).items m.row
  pub directory : HasPlaces (sizes m).depth m.directory
  pub base : HasRoom (sizes m).seats (sizes m).items m.base
  pub made : HasRoom (sizes m).seats (sizes m).items m.made
  pub found : (sizes m).seats ≤ vec_capacity m.found
  pub out : vec_len m.out ≡ bucket_row_words (sizes m)
  pub loaded : HaveLoadedRoom m
  pub change : ChangeHasRoom (sizes m).seats (sizes m).items (sizes m).depth m.change
  pub puts : most_puts (sizes m) ≤ vec_capacity m.puts
