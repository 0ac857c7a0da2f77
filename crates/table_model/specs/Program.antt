-- A seat's program as a value: what a machine keeps of its seat. It keeps no list of records and no first pairs.
use Rattle.std.specs.Prelude.{ℕ, ◌+◌, [], length, Option, slice_get}
use Rattle.step_counts.specs.declared.rows.SeatRows.{SeatRows}
use Rattle.plain_map.specs.declared.records.Record.{Record}
use Rattle.table_model.specs.Setup.{Setup}
use Rattle.table_model.specs.SeatStates.{Account, Stand, Idle, InFlight, SeatState}
use Rattle.table_model.specs.Asks.{Ask, Nothing, ask_in}
use Rattle.table_model.specs.Goes.{state_after}
use Rattle.table_model.specs.Fits.{StepFits}

-- what a machine stands for: what its table was opened with, its seat, what that has published, and its call in flight
pub record Program : Type 0 where
  pub setup : Setup
  pub seat : ℕ
  pub used : SeatRows
  -- how many calls were answered
  pub count : ℕ
  pub stand : Stand

-- what a table is opened with, but for its first pairs, on which no step depends
abbrev pub without_first : Setup → Setup
without_first setup = record { shape = setup.shape; hashing = setup.hashing; first = [] }

-- the program of a seat in this state, where it stands so
abbrev pub program_at : Setup → (seat : ℕ) → Account → Stand → Program
program_at setup seat account stand = record {
  setup = without_first setup;
  seat = seat;
  used = account.used;
  count = length account.records;
  stand = stand;
}

-- an account without records, in which the answer of one step stands alone
abbrev pub blank : SeatRows → Account
blank used = record { records = []; spent = []; used = used }

-- what a seat that stands so asks for
abbrev pub asks_in : Setup → (seat : ℕ) → SeatRows → Stand → Ask
asks_in setup seat used Idle = Nothing
asks_in setup seat used (InFlight flight phase) = ask_in setup seat used flight phase

-- what the program asks for
abbrev pub asks : Program → Ask
asks p = asks_in p.setup p.seat p.used p.stand

-- where its seat is after its step found this word, by an account in which the answer of that step stands alone
abbrev pub after_in : Setup → (seat : ℕ) → SeatRows → Stand → (word : ℕ) → SeatState
after_in setup seat used Idle word = record { account = blank used; stand = Idle }
after_in setup seat used (InFlight flight phase) word = state_after setup seat (blank used) flight phase word

-- the program after that step
abbrev pub takes : Program → (word : ℕ) → Program
takes p word =
    let after = after_in p.setup p.seat p.used p.stand word in
    record {
      setup = p.setup;
      seat = p.seat;
      used = after.account.used;
      count = p.count + length after.account.records;
      stand = after.stand;
    }

-- and the record, where the call ended with it
abbrev pub answers : Program → (word : ℕ) → Option Record
answers p word = slice_get (after_in p.setup p.seat p.used p.stand word).account.records 0

-- how many steps the call has taken
abbrev pub steps_in : Stand → ℕ
steps_in Idle = 0
steps_in (InFlight flight phase) = flight.steps

-- a call is going on
abbrev pub IsFlying : Stand → Type 0
IsFlying Idle = ⊥
IsFlying (InFlight flight phase) = Unit {0}

-- the step of a program that is in a call fits, where it finds this word
abbrev pub FitsIn : Setup → (seat : ℕ) → SeatRows → Stand → (word : ℕ) → Type 0
FitsIn setup seat used Idle word = ⊥
FitsIn setup seat used (InFlight flight phase) word = StepFits setup seat used flight phase word

-- the program is in a call, and can take its step
abbrev pub CanTake : Program → (word : ℕ) → Type 0
CanTake p word = FitsIn p.setup p.seat p.used p.stand word
