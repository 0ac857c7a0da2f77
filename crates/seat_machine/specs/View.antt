-- What a machine's fields stand for.
use Rattle.std.specs.Prelude.{ℕ, [], List, map, take}
use Rattle.step_counts.specs.declared.settings.Settings.{Settings}
use Rattle.hash_bits.specs.declared.hashing.Hashing.{Hashing}
use Rattle.word_rows.specs.LayoutView.{shape_of}
use Rattle.word_rows.specs.declared.layout.Layout.{Layout}
use Rattle.bucket_states.specs.States.{state_of}
use Rattle.table_model.specs.DirectoryChange.{LoadedBucket}
use Rattle.table_model.specs.Goes.{phase_after}
use Rattle.table_model.specs.Phases.{Phase}
use Rattle.table_model.specs.Program.{Program}
use Rattle.table_model.specs.SeatStates.{Flight, Stand, Idle, InFlight}
use Rattle.table_model.specs.Setup.{Setup}
use Rattle.dir_states.specs.Views.{as_directory, as_loaded}
use Rattle.seat_machine.specs.declared.machine.Machine.{Machine}
use Rattle.seat_machine.specs.declared.stage.Stage.{Stage}
use Rattle.seat_machine.specs.declared.stage.Stage.TheVariants as S
use Rattle.seat_machine.specs.Stages.{Held, phase_at}

-- a table, but for its first pairs, and its settings
abbrev pub setup_at : Layout → Hashing → Setup
setup_at layout hashing = record { shape = shape_of layout; hashing = hashing; first = [] }

abbrev pub setup_of : Machine → Setup
setup_of m = setup_at m.layout m.hashing

abbrev pub sizes : Machine → Settings
sizes m = (shape_of m.layout).settings

-- the call in flight
abbrev pub flight_of : Machine → Flight
flight_of m = record { packet = m.packet; call = m.call; number = m.number; seen = m.seen.items; steps = m.steps }

-- the buckets that a directory try loaded
abbrev pub loaded_in : Machine → List LoadedBucket
loaded_in m = map as_loaded (take m.many m.loaded.items)

-- what the buffers hold
abbrev pub held_of : Machine → Held
held_of m = record {
  words = m.words.items;
  base = state_of m.base;
  directory = as_directory m.directory;
  found = m.found.items;
  loaded = loaded_in m;
}

-- the phase, and the one after its step found this word
abbrev pub phase_of : Machine → Phase
phase_of m = phase_at m.stage (held_of m)

abbrev pub phase_then : Machine → (word : ℕ) → Phase
phase_then m word = phase_after (setup_of m) m.seat m.used (flight_of m) (phase_of m) word

-- where its seat stands
abbrev pub stand_at : Machine → Stage → Stand
stand_at m S.Idle = Idle
stand_at m stage = InFlight (flight_of m) (phase_of m)

-- the program that the machine stands for
abbrev pub program_of : Machine → Program
program_of m = record {
  setup = setup_of m;
  seat = m.seat;
  used = m.used;
  count = m.count;
  stand = stand_at m m.stage;
}
