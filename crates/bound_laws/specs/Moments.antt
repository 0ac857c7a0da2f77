-- Where a seat stood after each of its answers, and which calls of a run were answered.
use Rattle.std.specs.Prelude.{◌≡◌, ℕ, ◌<◌, ◌≤◌, ◌==◌, if◌then◌else◌, List, [], ◌∷◌, ◌++◌, map, length, take, flat_map, option_to_list, All}
use Rattle.plain_map.specs.declared.calls.Call.{Call}
use Rattle.plain_map.specs.declared.keys.Key.{Key}
use Rattle.plain_map.specs.declared.records.Record.{Record}
use Rattle.plain_map.specs.Room.{published}
use Rattle.table_model.specs.declared.events.Event.{Event}
use Rattle.table_model.specs.Setup.{Setup, seats_of}
use Rattle.table_model.specs.SeatStates.{Stand, Idle, InFlight, SeatState}
use Rattle.table_model.specs.Worlds.{IsRun, world_after, seat_in}
use Rattle.table_model.specs.Needs.{inserted_by, inserted_in, IsAmongKeys}

-- there was a moment at which the seat had answered so many calls, and was idle. It had published then what it tells of
-- its last answer
pub record IsIdleMoment (setup : Setup) (events : List Event) (seat count : ℕ) : Type 0 where
  pub front : List Event
  pub back : List Event
  pub cut : events ≡ front ++ back
  pub stand : (seat_in (world_after setup front) seat).stand ≡ Idle
  pub records :
      (seat_in (world_after setup front) seat).account.records
      ≡ take count (seat_in (world_after setup events) seat).account.records
  pub spent :
      (seat_in (world_after setup front) seat).account.spent
      ≡ take count (seat_in (world_after setup events) seat).account.spent
  pub used :
      (seat_in (world_after setup front) seat).account.used
      ≡ published (take count (seat_in (world_after setup events) seat).account.spent)

-- there is one for each number of calls that the seat has answered
abbrev pub IdleMoments : Type 0
IdleMoments =
    (setup : Setup) (events : List Event) (seat count : ℕ) → IsRun setup events → seat < seats_of setup →
    count ≤ length (seat_in (world_after setup events) seat).account.records →
    IsIdleMoment setup events seat count

-- the calls that these events give a seat, each with its packet
abbrev pub given_to : (seat : ℕ) → List Event → List (ℕ × Call)
given_to seat events =
    flat_map (λ event. if event.seat == seat then option_to_list event.begin else []) events

-- what was asked, in an answered call and in one that is going on
abbrev pub asked_of : Record → ℕ × Call
asked_of r = (r.packet, r.call)

abbrev pub asked_now : Stand → List (ℕ × Call)
asked_now Idle = []
asked_now (InFlight flight phase) = (flight.packet, flight.call) ∷ []

-- all that a seat has begun
abbrev pub asked_calls : SeatState → List (ℕ × Call)
asked_calls state = map asked_of state.account.records ++ asked_now state.stand

-- a run that leaves the same, and in which no call was refused: each that it gave a seat was answered, or is going on
pub record IsWithoutRefused (setup : Setup) (events : List Event) : Type 0 where
  pub taken : List Event
  pub run : IsRun setup taken
  pub same : world_after setup taken ≡ world_after setup events
  pub begun : (seat : ℕ) → given_to seat taken ≡ asked_calls (seat_in (world_after setup events) seat)

-- there is one for every run
abbrev pub BegunAreAnswered : Type 0
BegunAreAnswered = (setup : Setup) (events : List Event) → IsRun setup events → IsWithoutRefused setup events

-- the keys of the inserts of these calls are among these
abbrev pub AllAmong : List Key → List (ℕ × Call) → Type 0
AllAmong keys calls = All (IsAmongKeys keys) (flat_map (λ call. inserted_by call.1) calls)

-- where that holds of what each seat is given, it holds of what the events insert
abbrev pub InsertsAreOfCalls : Type 0
InsertsAreOfCalls =
    (setup : Setup) (events : List Event) (keys : List Key) → IsRun setup events →
    ((seat : ℕ) → seat < seats_of setup → AllAmong keys (given_to seat events)) →
    All (IsAmongKeys keys) (inserted_in events)
