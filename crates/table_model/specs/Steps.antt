-- The next step of a seat, where an idle one begins a call: the word that it is on, what that becomes, and what the
-- seat is told.
use Rattle.std.specs.Prelude.{◌≡◌, ℕ, ◌==◌, if◌then◌else◌, Option, Some, None}
use Rattle.plain_map.specs.declared.calls.Call.{Call}
use Rattle.word_rows.specs.Shape.{Shape}
use Rattle.word_rows.specs.declared.addresses.Address.{Address}
use Rattle.word_rows.specs.declared.addresses.Address.TheVariants.{Root}
use Rattle.word_rows.specs.Places.{IsAddress}
use Rattle.table_model.specs.declared.events.Event.{Event}
use Rattle.table_model.specs.Setup.{Setup}
use Rattle.table_model.specs.Phases.{Phase, SeeDone}
use Rattle.table_model.specs.SeatStates.{Account, Flight, Stand, Idle, InFlight, SeatState, begun}
use Rattle.table_model.specs.declared.events.Ask.{Ask}
use Rattle.table_model.specs.declared.events.Ask.TheVariants.{Nothing, Load, Store, Exchange}
use Rattle.table_model.specs.Asks.{ask_in}
use Rattle.table_model.specs.Goes.{state_after}
use Rattle.table_model.specs.Worlds.{CanBegin, refusal_of}

-- the call that an event gives: it is given exactly where the seat is idle
abbrev pub begin_of : Stand → ℕ × Call → Option (ℕ × Call)
begin_of Idle asked = Some asked
begin_of (InFlight flight phase) asked = None

-- the call in which the seat takes its next step
abbrev pub flight_in : Account → Stand → ℕ × Call → Flight
flight_in account Idle asked = begun account asked.0 asked.1
flight_in account (InFlight flight phase) asked = flight

-- and that phase
abbrev pub phase_in : Stand → Phase
phase_in Idle = SeeDone
phase_in (InFlight flight phase) = phase

-- an idle seat may begin the call, and it is not refused
abbrev pub MayStep : Setup → (seat : ℕ) → ℕ × Call → Account → Stand → Type 0
MayStep setup seat asked account Idle = (refusal_of setup seat account asked.1 ≡ None) × CanBegin setup account asked
MayStep setup seat asked account (InFlight flight phase) = Unit {0}

-- the event of that step
abbrev pub event_of : (seat : ℕ) → ℕ × Call → SeatState → Event
event_of seat asked state = record { seat = seat; begin = begin_of state.stand asked }

-- what it asks for
abbrev pub ask_of : Setup → (seat : ℕ) → ℕ × Call → SeatState → Ask
ask_of setup seat asked state =
    ask_in setup seat state.account.used (flight_in state.account state.stand asked) (phase_in state.stand)

-- and its state then, by the word that it found
abbrev pub advanced : Setup → (seat : ℕ) → ℕ × Call → SeatState → (word : ℕ) → SeatState
advanced setup seat asked state word =
    state_after setup seat state.account (flight_in state.account state.stand asked) (phase_in state.stand) word

-- the address of what is asked for
abbrev pub address_of : Ask → Address
address_of Nothing = Root
address_of (Load from) = from
address_of (Store to word) = to
address_of (Exchange at old new) = at

-- what the word there becomes, where it was this one
abbrev pub becomes : Ask → (was : ℕ) → ℕ
becomes Nothing was = was
becomes (Load from) was = was
becomes (Store to word) was = word
becomes (Exchange at old new) was = if was == old then new else was

-- and what the seat is told then
abbrev pub told : Ask → (was : ℕ) → ℕ
told Nothing was = 0
told (Load from) was = was
told (Store to word) was = 0
told (Exchange at old new) was = was

-- the step is on a word of the table
abbrev pub IsOnWord : Shape → Ask → Type 0
IsOnWord shape Nothing = ⊥
IsOnWord shape (Load from) = IsAddress shape from
IsOnWord shape (Store to word) = IsAddress shape to
IsOnWord shape (Exchange at old new) = IsAddress shape at
