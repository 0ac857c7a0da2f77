-- Words and programs at a moment of a run, and what one event makes of them.
use Rattle.std.specs.Prelude.{◌≡◌, ℕ, ◌<◌, List, ◌++◌, length, map, slice_index_or, flat_map, option_to_list, Vec, vec_len, vec_capacity}
use Rattle.std.specs.List.{range_with_len}
use Rattle.plain_map.specs.declared.records.Record.{Record}
use Rattle.plain_map.specs.declared.records.Pending.{Pending}
use Rattle.word_rows.specs.Shape.{Shape}
use Rattle.word_rows.specs.Places.{word_count}
use Rattle.table_model.specs.declared.events.Event.{Event}
use Rattle.table_model.specs.Setup.{Setup, seats_of}
use Rattle.table_model.specs.SeatStates.{SeatState}
use Rattle.table_model.specs.Program.{Program, program_at}
use Rattle.table_model.specs.Worlds.{World, IsEvent, IsRun, happens, seat_in, world_after}
use Rattle.seat_machine.specs.Programs.{pending_in, resting}
use Rattle.core_steps.specs.declared.values.Stepped.{Stepped}
use Rattle.core_steps.specs.Values.{stepped_of}
use Rattle.core_steps.specs.Steps.{ended_in}

-- the program of a seat in this state
abbrev pub program_of : Setup → (seat : ℕ) → SeatState → Program
program_of setup seat state = program_at setup seat state.account state.stand

-- words and programs are those of the world
pub record StandsIn (setup : Setup) (world : World) (words : List ℕ) (programs : List Program) : Type 0 where
  pub words_are : words ≡ world.words
  pub long : length words ≡ word_count setup.shape
  pub seats : length world.seats ≡ seats_of setup
  pub each : length programs ≡ seats_of setup
  pub programs_are : (seat : ℕ) (d : Program) → seat < seats_of setup →
      slice_index_or programs seat d ≡ program_of setup seat (seat_in world seat)

-- they are those of the world after a run, in which this event may come
pub record AtCore (shape : Shape) (words : List ℕ) (programs : List Program) (event : Event) : Type 0 where
  pub setup : Setup
  pub events : List Event
  pub run : IsRun setup events
  pub shape_is : setup.shape ≡ shape
  pub stands : StandsIn setup (world_after setup events) words programs
  pub may : IsEvent setup (world_after setup events) event

-- and then those of the world after the event, of which this is told
pub record IsAfter (setup : Setup) (w : World) (event : Event) (words : List ℕ) (programs : List Program)
    (stepped : Stepped) : Type 0 where
  pub stands : StandsIn setup (happens setup w event) words programs
  pub told : stepped ≡ stepped_of setup w event
  pub grown : (seat_in (happens setup w event) event.seat).account.records
      ≡ (seat_in w event.seat).account.records ++ ended_in stepped

abbrev pub CoreHappened : {shape : Shape} {words : List ℕ} {programs : List Program} {event : Event} →
    AtCore shape words programs event → List ℕ → List Program → Stepped → Type 0
CoreHappened {event = event} s words programs stepped =
    IsAfter s.setup (world_after s.setup s.events) event words programs stepped

-- the list of a seat has room for one more
abbrev pub HasRoomFor : {A : Type 0} → List (Vec Record A) → (seat : ℕ) → Type 0
HasRoomFor {A} logs seat =
    (d : Vec Record A) → seat < length logs →
    vec_len (slice_index_or logs seat d) < vec_capacity (slice_index_or logs seat d)

-- the calls of these programs that are under way
abbrev pub pending_of_all : List Program → List Pending
pending_of_all programs = flat_map (λ p. option_to_list (pending_in p)) programs

-- the programs of seats that have made no call
abbrev pub AreResting : Setup → List Program → Type 0
AreResting setup programs = programs ≡ map (resting setup) (range_with_len 0 (seats_of setup))
