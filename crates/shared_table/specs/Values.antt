-- What contracts see of a seat and of a directory.
use Rattle.std.specs.Prelude.{◌≡◌, ℕ, zero, suc, ◌<◌, List, [], ◌∷◌, ◌++◌, All, Option, count_by, ◌==◌}
use Rattle.atomic_table.specs.Seated.{TableId}
use Rattle.plain_map.specs.declared.calls.Call.{Call}
use Rattle.plain_map.specs.declared.records.Record.{Record}
use Rattle.plain_map.specs.declared.full.Full.{Full}
use Rattle.plain_map.specs.Room.{first_short, left_of, published, refusal}
use Rattle.plain_map.specs.Serving.{IsNext}
use Rattle.step_counts.specs.StepCounts.{need_of}
use Rattle.step_counts.specs.declared.rows.SeatRows.{SeatRows}
use Rattle.word_rows.specs.Shape.{Shape, sizes_of}
use Rattle.table_model.specs.declared.events.Event.{Event}
use Rattle.table_model.specs.Setup.{Setup, seats_of, settings_of}
use Rattle.table_model.specs.Worlds.{IsRun, world_after, seat_in}
use Rattle.table_model.specs.Promises.{HasSteps, IsAnsweredBy, words_in}
use Rattle.shared_table.specs.Seating.{fresh}
use Rattle.shared_table.specs.SeatValues.{SeatValue, IsIdle, account_of}
use Rattle.shared_table.specs.Rule.{IsReached, Learned}

-- a table that runs: which one, and what it was opened with
pub record TableValue : Type 0 where
  pub table_id : TableId
  pub setup : Setup

-- a closed table: its shape, and its words
pub record ClosedValue : Type 0 where
  pub shape : Shape
  pub words : List ℕ

-- the seat is one of the table's
pub record IsOf (t : TableValue) (s : SeatValue) : Type 0 where
  pub table : s.table_id ≡ t.table_id
  pub setup : s.holding.setup ≡ t.setup

-- the seat stays the same one of the same table
pub record IsSame (a b : SeatValue) : Type 0 where
  pub table : b.table_id ≡ a.table_id
  pub setup : b.holding.setup ≡ a.holding.setup
  pub number : b.holding.seat ≡ a.holding.seat

-- what is left of its ranges
abbrev pub left_in : SeatValue → SeatRows
left_in s = left_of (sizes_of s.holding.setup.shape s.holding.seat) (published (account_of s).spent)

-- what it has too little of for one more update
abbrev pub shortage_of : SeatValue → Option Full
shortage_of s = first_short (left_in s) (need_of (settings_of s.holding.setup))

-- why it would refuse a call
abbrev pub refused_at : SeatValue → Call → Option Full
refused_at s call = refusal (left_in s) (need_of (settings_of s.holding.setup)) call

-- the call was answered: its record is the seat's next, and what the seat knows of the run has exactly its steps more
-- of the seat, and leads to its records. The steps are those that such a call may have, and the reply is that of its
-- row
pub record Answers (packet : ℕ) (call : Call) (was now : SeatValue) (made : Record) : Type 0 where
  pub next : IsNext (account_of was).records packet call made
  pub records : (account_of now).records ≡ (account_of was).records ++ made ∷ []
  pub spent : (account_of now).spent ≡ (account_of was).spent ++ (account_of now).used ∷ []
  pub learned : Learned was.holding.seat made.steps was.holding.known now.holding.known
  pub reached : IsReached now.holding
  pub counted : HasSteps now.holding.setup (words_in now.holding.setup now.holding.known) made
  pub of_row : IsAnsweredBy now.holding.setup (words_in now.holding.setup now.holding.known) made

-- the run begins with what the seat knows, has no more steps of it, and leaves it in its state, which is idle
pub record IsLeft (setup : Setup) (events : List Event) (s : SeatValue) : Type 0 where
  pub state : s.holding.state ≡ seat_in (world_after setup events) s.holding.seat
  pub learned : Learned s.holding.seat 0 s.holding.known events
  pub idle : IsIdle s

-- one run leaves these words, and each seat to exactly one of these
pub record Ran (setup : Setup) (words : List ℕ) (seats : List SeatValue) : Type 0 where
  pub events : List Event
  pub is_run : IsRun setup events
  pub words_are : words ≡ (world_after setup events).words
  pub seats_are : All (IsLeft setup events) seats
  pub once : (seat : ℕ) → seat < seats_of setup → count_by (λ s. s.holding.seat == seat) seats ≡ 1

-- a seat that has made no call, and so many from one on
abbrev pub new_seat : TableValue → (seat : ℕ) → SeatValue
new_seat t seat = record { table_id = t.table_id; holding = fresh t.setup seat }

-- and so many from one on
abbrev pub new_seats : TableValue → (seat many : ℕ) → List SeatValue
new_seats t seat zero = []
new_seats t seat (suc many) = new_seat t seat ∷ new_seats t (suc seat) many

-- the seat is one of the table's, and has answered nothing
pub record IsNew (t : TableValue) (s : SeatValue) : Type 0 where
  pub of : IsOf t s
  pub none : (account_of s).records ≡ []
