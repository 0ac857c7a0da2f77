-- A call on its way on the table's words.
use Rattle.std.specs.Prelude.{◌≡◌, ℕ, ◌+◌, Bool, false, List, ◌++◌, ◌∷◌, [], length, if◌then◌else◌}
use Rattle.atomic_table.specs.Seated.{TableId}
use Rattle.atomic_table.specs.declared.shared.Seat.{Seat}
use Rattle.plain_map.specs.declared.calls.Call.{Call}
use Rattle.plain_map.specs.declared.records.Record.{Record}
use Rattle.step_counts.specs.declared.rows.SeatRows.{SeatRows}
use Rattle.word_rows.specs.Places.{word_count}
use Rattle.table_model.specs.SeatStates.{Idle, fresh_seat}
use Rattle.table_model.specs.Phases.{Stuck}
use Rattle.table_model.specs.Shown.{Holding}
use Rattle.table_model.specs.Steps.{flight_in, phase_in, MayStep}
use Rattle.seat_calls.specs.Going.{Going, on}
use Rattle.shared_table.specs.declared.view.View.{View}
use Rattle.shared_table.specs.declared.rule.Plan.{Plan}
use Rattle.shared_table.specs.SeatValues.{SeatValue}
use Rattle.shared_table.specs.declared.zeros.Zeros.{Zeros}
use Rattle.shared_table.specs.Rule.{M, alone, IsReached, Learned, late_state, plain, with_late}
use Rattle.shared_table.specs.Zeros.{AreLate, HasZeros}

-- the token of a seat of this table
abbrev pub Token : Type 0
Token = Seat (Unit {0}) View

-- so far the call has taken these steps, and answered nothing
pub record Under (asked : ℕ × Call) (first now : Holding) : Type 0 where
  pub reached : IsReached now
  pub setup : now.setup ≡ first.setup
  pub seat : now.seat ≡ first.seat
  pub may : MayStep now.setup now.seat asked now.state.account now.state.stand
  pub records : now.state.account.records ≡ first.state.account.records
  pub spent : now.state.account.spent ≡ first.state.account.spent
  pub packet : (flight_in now.state.account now.state.stand asked).packet ≡ asked.0
  pub call : (flight_in now.state.account now.state.stand asked).call ≡ asked.1
  pub number : (flight_in now.state.account now.state.stand asked).number ≡ length first.state.account.records + 1
  pub learned : Learned first.seat (flight_in now.state.account now.state.stand asked).steps first.known now.known

-- the call has ended with this record, and the seat has published so much by then
pub record Ended (asked : ℕ × Call) (first last : Holding) (made : Record) (used : SeatRows) : Type 0 where
  pub reached : IsReached last
  pub setup : last.setup ≡ first.setup
  pub seat : last.seat ≡ first.seat
  pub idle : last.state.stand ≡ Idle
  pub records : last.state.account.records ≡ first.state.account.records ++ made ∷ []
  pub published : last.state.account.used ≡ used
  pub spent : last.state.account.spent ≡ first.state.account.spent ++ last.state.account.used ∷ []
  pub packet : made.packet ≡ asked.0
  pub call : made.call ≡ asked.1
  pub number : made.number ≡ length first.state.account.records + 1
  pub learned : Learned first.seat made.steps first.known last.known

-- what contracts see of a call on its way: the seat as the table knows it, how many steps it has yet to take late, and
-- which words of its own are 0
pub record RunningValue : Type 0 where
  pub table_id : TableId
  pub holding : Holding
  pub late : ℕ
  pub zeros : Zeros
  pub done : Bool

-- the first of the holdings, or this one
abbrev pub first_or : Holding → List Holding → Holding
first_or d [] = d
first_or d (x ∷ xs) = x

-- the holding of a token of one seat
abbrev pub holding_of : Plan → M → Holding
holding_of key me = first_or (record { setup = plain key; seat = 0; state = fresh_seat; known = [] }) me.0.bundle

-- what contracts see of a call, by its token
abbrev pub running_value : Plan → Token → (late : ℕ) → Zeros → Bool → RunningValue
running_value key token late zeros done = record {
  table_id = token.table_id;
  holding = holding_of key token.me;
  late = late;
  zeros = zeros;
  done = done;
}

-- where the call stands: an idle seat begins it
abbrev pub going_of : ℕ × Call → Holding → Going
going_of asked h = record {
  setup = h.setup;
  seat = h.seat;
  account = h.state.account;
  flight = flight_in h.state.account h.state.stand asked;
  phase = phase_in h.state.stand;
}

-- a call stands where it stands after its late steps, and one that has ended has no next step
abbrev pub now_of : ℕ × Call → RunningValue → Going
now_of asked v =
    if v.done then on (going_of asked (with_late asked v.late v.holding)) Stuck
    else going_of asked (with_late asked v.late v.holding)

-- the call had begun with this seat. What the table knows of it are its steps but the late ones
pub record Began (asked : ℕ × Call) (was : List SeatValue) (table_id : TableId) (late : ℕ) (now : Holding) : Type 0
  where
    pub first : SeatValue
    pub is : was ≡ first ∷ []
    pub table : table_id ≡ first.table_id
    pub under : Under asked first.holding (with_late asked late now)
    pub own : ℕ
    pub since : Learned first.holding.seat own first.holding.known now.known
    pub all : (flight_in (late_state asked late now).account (late_state asked late now).stand asked).steps ≡ own + late

-- the token is that of one seat of the table, and a call that has not ended had begun with it
pub record IsRunning (asked : ℕ × Call) (was : List SeatValue) (key : Plan) (table_id : TableId) (token : Token)
    (late : ℕ) (zeros : Zeros) (done : Bool) : Type 0 where
  pub table : token.table_id ≡ table_id
  pub size : table_id.words ≡ word_count (plain key).shape
  pub one : token.me ≡ alone (holding_of key token.me)
  pub setup : (holding_of key token.me).setup ≡ plain key
  pub here : IsReached (holding_of key token.me)
  pub has_zeros : HasZeros (holding_of key token.me) zeros
  pub are_late : AreLate asked zeros late (holding_of key token.me)
  pub began : done ≡ false → Began asked was table_id late (holding_of key token.me)

-- the call has ended with this record, at the seat that had begun it
abbrev pub HasAnswered : ℕ × Call → List SeatValue → RunningValue → Record → SeatRows → Type 0
HasAnswered asked was v made used =
    (first : SeatValue) → was ≡ first ∷ [] →
    (v.table_id ≡ first.table_id) × Ended asked first.holding v.holding made used

-- a seat between two calls, which may make this one
pub record Rests (asked : ℕ × Call) (h : Holding) (me : M) : Type 0 where
  pub one : me ≡ alone h
  pub reached : IsReached h
  pub idle : h.state.stand ≡ Idle
  pub may : MayStep h.setup h.seat asked h.state.account Idle
