-- How a seat's records and its call in flight are numbered.
use Rattle.std.specs.Prelude.{◌≡◌, ℕ, ◌+◌, ◌<◌, List, ◌∷◌, ◌++◌, length}
use Rattle.plain_map.specs.declared.records.Record.{Record}
use Rattle.table_model.specs.declared.events.Event.{Event}
use Rattle.table_model.specs.Setup.{Setup, seats_of}
use Rattle.table_model.specs.Phases.{Phase}
use Rattle.table_model.specs.SeatStates.{Flight, InFlight}
use Rattle.table_model.specs.Worlds.{IsRun, world_after, seat_in}

-- a seat's records are numbered from 1 on, and bear the seat's number
abbrev pub EachRecordIsNumbered : Type 0
EachRecordIsNumbered =
    (setup : Setup) (events : List Event) (seat : ℕ) (front back : List Record) (r : Record) → IsRun setup events →
    seat < seats_of setup →
    (seat_in (world_after setup events) seat).account.records ≡ front ++ r ∷ back →
    (r.number ≡ length front + 1) × (r.seat ≡ seat)

-- and the call in flight has the next number
abbrev pub FlightsAreNumbered : Type 0
FlightsAreNumbered =
    (setup : Setup) (events : List Event) (seat : ℕ) (flight : Flight) (phase : Phase) → IsRun setup events →
    seat < seats_of setup →
    (seat_in (world_after setup events) seat).stand ≡ InFlight flight phase →
    flight.number ≡ length (seat_in (world_after setup events) seat).account.records + 1
