-- What a program that keeps no records and no first pairs has of its seat.
use Rattle.std.specs.Prelude.{◌≡◌, ℕ, ◌+◌, ◌<◌, ◌⊎◌, List, [], ◌∷◌, ◌++◌}
use Rattle.step_counts.specs.declared.rows.SeatRows.{SeatRows}
use Rattle.plain_map.specs.declared.calls.Call.{Call}
use Rattle.plain_map.specs.declared.calls.Reply.{Reply}
use Rattle.table_model.specs.declared.events.Event.{Event}
use Rattle.table_model.specs.Setup.{Setup, seats_of}
use Rattle.table_model.specs.Phases.{Phase}
use Rattle.table_model.specs.SeatStates.{Account, Flight, Idle, InFlight, SeatState, record_of}
use Rattle.table_model.specs.Asks.{ask_in}
use Rattle.table_model.specs.Goes.{state_after}
use Rattle.table_model.specs.Worlds.{IsRun, world_after, seat_in, found_by}
use Rattle.table_model.specs.Steps.{flight_in, phase_in, MayStep, ask_of, IsOnWord}
use Rattle.table_model.specs.Program.{without_first, blank, program_at, takes, after_in, CanTake}
use Rattle.table_model.specs.Fits.{StepFits, EveryStepFits}

-- the state after a step, beside that of a program that keeps no records
pub record Beside (account : Account) (full small : SeatState) : Type 0 where
  pub stand : full.stand ≡ small.stand
  pub used : full.account.used ≡ small.account.used
  pub records : full.account.records ≡ account.records ++ small.account.records
  pub spent : full.account.spent ≡ account.spent ++ small.account.spent

-- a step ends the call or goes on in it
pub record GoesOn (flight : Flight) (small : SeatState) : Type 0 where
  pub next : Flight
  pub phase : Phase
  pub stand : small.stand ≡ InFlight next phase
  pub records : small.account.records ≡ []
  pub spent : small.account.spent ≡ []
  pub packet : next.packet ≡ flight.packet
  pub call : next.call ≡ flight.call
  pub number : next.number ≡ flight.number
  pub steps : next.steps ≡ flight.steps + 1

pub record EndsCall (seat : ℕ) (used : SeatRows) (flight : Flight) (small : SeatState) : Type 0 where
  pub reply : Reply
  pub place : ℕ
  pub stand : small.stand ≡ Idle
  pub records : small.account.records ≡ record_of seat flight reply place ∷ []
  pub spent : small.account.spent ≡ used ∷ []
  pub used_is : small.account.used ≡ used

-- no step depends on the first pairs
abbrev pub FirstPairsDoNotAsk : Type 0
FirstPairsDoNotAsk =
    (setup : Setup) (seat : ℕ) (used : SeatRows) (flight : Flight) (phase : Phase) →
    ask_in (without_first setup) seat used flight phase ≡ ask_in setup seat used flight phase

-- a seat goes as its program does
abbrev pub SeatsGoAsPrograms : Type 0
SeatsGoAsPrograms =
    (setup : Setup) (seat : ℕ) (account : Account) (flight : Flight) (word : ℕ) (phase : Phase) →
    Beside account (state_after setup seat account flight phase word)
    (state_after (without_first setup) seat (blank account.used) flight phase word)

-- a step ends the call, or the call goes on
abbrev pub StepsEndOrGoOn : Type 0
StepsEndOrGoOn =
    (setup : Setup) (seat : ℕ) (used : SeatRows) (flight : Flight) (word : ℕ) (phase : Phase) →
    IsOnWord setup.shape (ask_in setup seat used flight phase) →
    GoesOn flight (state_after setup seat (blank used) flight phase word)
    ⊎ EndsCall seat used flight (state_after setup seat (blank used) flight phase word)

-- what fits a step with first pairs fits it without them
abbrev pub FitsWithoutFirst : Type 0
FitsWithoutFirst =
    (setup : Setup) (seat : ℕ) (used : SeatRows) (flight : Flight) (phase : Phase) (word : ℕ) →
    StepFits setup seat used flight phase word → StepFits (without_first setup) seat used flight phase word

-- whoever has the run can take its steps: core_steps by the run that it keeps, shared_table by the one that its play
-- tells
abbrev pub RunsCanBeTaken : Type 0
RunsCanBeTaken =
    EveryStepFits → (setup : Setup) (events : List Event) (seat : ℕ) (asked : ℕ × Call) (state : SeatState) (word : ℕ)
    → IsRun setup events →
    seat < seats_of setup → seat_in (world_after setup events) seat ≡ state
    → MayStep setup seat asked state.account state.stand →
    word ≡ found_by setup (ask_of setup seat asked state) (world_after setup events).words →
    CanTake (program_at setup seat state.account
    (InFlight (flight_in state.account state.stand asked) (phase_in state.stand))) word

-- and the program then is that of the seat after it, whose records grew by what the program answers
abbrev pub ProgramsFollow : Type 0
ProgramsFollow =
    (setup : Setup) (seat : ℕ) (account : Account) (flight : Flight) (phase : Phase) (word : ℕ) →
    (let p = program_at setup seat account (InFlight flight phase) in
    let after = state_after setup seat account flight phase word in
    (takes p word ≡ program_at setup seat after.account after.stand)
    × (after.account.records ≡ account.records ++ (after_in p.setup p.seat p.used p.stand word).account.records))
