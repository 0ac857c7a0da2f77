-- What contracts see of the core as one world: what it was opened with, the events so far, and the world after them.
use Rattle.std.specs.Prelude.{◌≡◌, ℕ, List, [], ◌∷◌, ◌++◌, length, slice_get, Bool, true, false, Option, Some, None}
use Rattle.hash_bits.specs.declared.hashing.Hashing.{Hashing}
use Rattle.step_counts.specs.declared.rows.SeatRows.{SeatRows}
use Rattle.step_counts.specs.declared.settings.Settings.{Settings}
use Rattle.plain_map.specs.declared.calls.Call.{Call}
use Rattle.plain_map.specs.declared.full.Full.{Full}
use Rattle.plain_map.specs.declared.keys.Pair.{Pair}
use Rattle.plain_map.specs.declared.records.Record.{Record}
use Rattle.word_rows.specs.Shape.{Shape, record_limit}
use Rattle.table_model.specs.declared.events.Event.{Event}
use Rattle.table_model.specs.Setup.{Setup}
use Rattle.table_model.specs.SeatStates.{Account, Stand, Idle, InFlight}
use Rattle.table_model.specs.Worlds.{World, IsRun, opening_world, world_after, happens, seat_in, refusal_of}
use Rattle.core_steps.specs.declared.values.Stepped.{Stepped}
use Rattle.core_steps.specs.declared.values.Stepped.TheVariants.{Going, Ended, Refused}

-- a table of this shape, with this hashing and these first pairs
abbrev pub setup_at : Shape → Hashing → List Pair → Setup
setup_at shape hashing first = record { shape = shape; hashing = hashing; first = first }

-- a table of these settings, with these ranges, hashing and first pairs
abbrev pub setup_of : Settings → Hashing → List SeatRows → List Pair → Setup
setup_of settings hashing ranges first = record {
  shape = record { settings = settings; ranges = ranges; limit = record_limit };
  hashing = hashing;
  first = first;
}

-- a table, what has happened in it, and what has come of that
pub record CoreValue : Type 0 where
  pub setup : Setup
  pub events : List Event
  pub world : World

-- nothing has happened yet
abbrev pub opened : Setup → CoreValue
opened setup = record { setup = setup; events = []; world = opening_world setup }

-- the events are a run, and have come to this world
pub record IsMoment (core : CoreValue) : Type 0 where
  pub run : IsRun core.setup core.events
  pub world : core.world ≡ world_after core.setup core.events

-- with one event more
abbrev pub with_event : CoreValue → Event → CoreValue
with_event core event = record {
  setup = core.setup;
  events = core.events ++ event ∷ [];
  world = happens core.setup core.world event;
}

-- the seat is between two calls
abbrev pub rests : Stand → Bool
rests Idle = true
rests (InFlight flight phase) = false

-- why the call that comes with an event is refused, where it is
abbrev pub refused_at : Setup → (seat : ℕ) → Account → Stand → Option (ℕ × Call) → Option Full
refused_at setup seat account Idle (Some begin) = refusal_of setup seat account begin.1
refused_at setup seat account stand begin = None

-- the record that an account has after an event and had not before, where it has one
abbrev pub new_record : (before after : Account) → Option Record
new_record before after = slice_get after.records (length before.records)

-- what is told of an event
abbrev pub told_of : Option Full → Option Record → Stepped
told_of (Some full) made = Refused full
told_of None (Some r) = Ended r
told_of None None = Going

-- what an event does: its call is refused, or a call ends with it, or neither
abbrev pub stepped_of : Setup → World → Event → Stepped
stepped_of setup world event =
    told_of
    (refused_at setup event.seat (seat_in world event.seat).account (seat_in world event.seat).stand event.begin)
    (new_record (seat_in world event.seat).account (seat_in (happens setup world event) event.seat).account)
