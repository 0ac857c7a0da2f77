-- One event of one seat, by the words and the seat's program alone.
use Rattle.std.specs.Prelude.{◌≡◌, ℕ, ◌<◌, List, [], ◌∷◌, ◌++◌, Option}
use Rattle.plain_map.specs.declared.calls.Call.{Call}
use Rattle.plain_map.specs.declared.records.Record.{Record}
use Rattle.word_rows.specs.Shape.{Shape}
use Rattle.table_model.specs.declared.events.Event.{Event}
use Rattle.table_model.specs.Setup.{Setup, seats_of}
use Rattle.table_model.specs.SeatStates.{Account, Stand, SeatState, InFlight}
use Rattle.table_model.specs.Steps.{MayStep, event_of, flight_in, phase_in}
use Rattle.table_model.specs.Program.{Program, program_at}
use Rattle.table_model.specs.Worlds.{FitsStand, IsRun, World, happens, seat_in, world_after}
use Rattle.core_steps.specs.declared.values.Stepped.{Stepped}
use Rattle.core_steps.specs.declared.values.Stepped.TheVariants.{Going, Ended, Refused}
use Rattle.core_steps.specs.Values.{stepped_of}

-- a run left these words, and a seat with this program, which may take a step
pub record AtStep (shape : Shape) (words : List ℕ) (p : Program) : Type 0 where
  pub setup : Setup
  pub events : List Event
  pub seat : ℕ
  pub asked : ℕ × Call
  pub state : SeatState
  pub run : IsRun setup events
  pub inside : seat < seats_of setup
  pub at : seat_in (world_after setup events) seat ≡ state
  pub may : MayStep setup seat asked state.account state.stand
  pub words_are : words ≡ (world_after setup events).words
  pub shape_is : setup.shape ≡ shape
  pub program : p ≡ program_at setup seat state.account
      (InFlight (flight_in state.account state.stand asked) (phase_in state.stand))

-- the record that ended with an event
abbrev pub ended_in : Stepped → List Record
ended_in Going = []
ended_in (Ended r) = r ∷ []
ended_in (Refused full) = []

-- the world after an event of the seat has these words, its seat has this program, and this is told of it
pub record Happened (setup : Setup) (w : World) (seat : ℕ) (account : Account) (event : Event) (words : List ℕ)
    (p : Program) (stepped : Stepped) : Type 0 where
  pub words_are : words ≡ (happens setup w event).words
  pub program : p ≡ program_at setup seat (seat_in (happens setup w event) seat).account
      (seat_in (happens setup w event) seat).stand
  pub told : stepped ≡ stepped_of setup w event
  pub grown : (seat_in (happens setup w event) seat).account.records ≡ account.records ++ ended_in stepped

-- after one event more
abbrev pub Advanced : {shape : Shape} {words : List ℕ} {p : Program} → AtStep shape words p → List ℕ → Program →
    Stepped → Type 0
Advanced s words p stepped =
    Happened s.setup (world_after s.setup s.events) s.seat s.state.account (event_of s.seat s.asked s.state) words p
    stepped

-- a run left these words, and a seat with this program, which may be given this call or none
pub record AtEvent (shape : Shape) (words : List ℕ) (p : Program) (begin : Option (ℕ × Call)) : Type 0 where
  pub setup : Setup
  pub events : List Event
  pub seat : ℕ
  pub account : Account
  pub stand : Stand
  pub run : IsRun setup events
  pub inside : seat < seats_of setup
  pub at : seat_in (world_after setup events) seat ≡ record { account = account; stand = stand }
  pub words_are : words ≡ (world_after setup events).words
  pub shape_is : setup.shape ≡ shape
  pub program : p ≡ program_at setup seat account stand
  pub given : FitsStand setup account stand begin

-- after the event
abbrev pub HasHappened : {shape : Shape} {words : List ℕ} {p : Program} {begin : Option (ℕ × Call)} →
    AtEvent shape words p begin → List ℕ → Program → Stepped → Type 0
HasHappened {begin = begin} s words p stepped =
    Happened s.setup (world_after s.setup s.events) s.seat s.account (record { seat = s.seat; begin = begin }) words p
    stepped
