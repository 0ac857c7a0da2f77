-- A program that begins a call, and what is told of one in which its seat stops.
use Rattle.std.specs.Prelude.{ℕ, ◌+◌, [], Option, Some, None}
use Rattle.plain_map.specs.declared.calls.Call.{Call}
use Rattle.plain_map.specs.declared.records.Pending.{Pending}
use Rattle.plain_map.specs.Room.{no_rows}
use Rattle.table_model.specs.Phases.{SeeDone}
use Rattle.table_model.specs.Program.{Program}
use Rattle.table_model.specs.SeatStates.{Stand, Idle, InFlight, pending_of}
use Rattle.table_model.specs.Setup.{Setup}

-- a seat that has made no call
abbrev pub resting : Setup → (seat : ℕ) → Program
resting setup seat = record { setup = setup; seat = seat; used = no_rows; count = 0; stand = Idle }

-- the call begins, as the seat's next
abbrev pub begins : Program → (begin : ℕ × Call) → Program
begins p begin = record {
  setup = p.setup;
  seat = p.seat;
  used = p.used;
  count = p.count;
  stand = InFlight (record { packet = begin.0; call = begin.1; number = p.count + 1; seen = []; steps = 0 }) SeeDone;
}

-- the call in which a seat stops that stands so
abbrev pub pending_at : (seat : ℕ) → Stand → Option Pending
pending_at seat Idle = None
pending_at seat (InFlight flight phase) = Some (pending_of seat flight)

-- and by its program
abbrev pub pending_in : Program → Option Pending
pending_in p = pending_at p.seat p.stand
