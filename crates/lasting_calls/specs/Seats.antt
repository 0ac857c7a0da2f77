-- What a seat keeps for itself between its calls.
use Rattle.std.specs.Prelude.{◌≡◌, ℕ, ◌+◌, ◌≤◌, Bool, true, false, List, [], ◌∷◌, ◌++◌, length, Option, Some, None}
use Rattle.own_rows.specs.declared.rows.OwnRows.{OwnRows}
use Rattle.own_rows.specs.Rows.{HasRows, IsSound, Rows}
use Rattle.plain_map.specs.declared.calls.Reply.{Reply}
use Rattle.lasting_model.specs.Plans.{MOST_UPDATES}
use Rattle.lasting_model.specs.Words.{first_row}
use Rattle.lasting_model.specs.Steps.{SeatNow, Sweep, Homes, Seats, Sees, Loads, Gives, Idle}
use Rattle.lasting_model.specs.Goes.{Told, Replied, Refused}
use Rattle.lasting_calls.specs.Going.{Going}
use Rattle.lasting_calls.specs.declared.seat_state.SeatState.{SeatState}

-- the rows that a sweep has still to look at, and those that are gone
abbrev pub todo_in : Option Sweep → List (ℕ × ℕ)
todo_in None = []
todo_in (Some (Homes todo gone)) = todo
todo_in (Some sweep) = []

abbrev pub gone_in : Option Sweep → List (ℕ × ℕ)
gone_in None = []
gone_in (Some (Homes todo gone)) = gone
gone_in (Some (Seats seat gone)) = gone
gone_in (Some (Sees seat time gone)) = gone
gone_in (Some (Loads seat time bucket gone)) = gone
gone_in (Some (Gives seat time row gone)) = gone

-- the rows of the seat, as it has them
abbrev pub rows_at : SeatNow → Rows
rows_at now = record {
  generation = now.generation;
  free = now.free;
  named = now.named;
  todo = todo_in now.sweep;
  gone = gone_in now.sweep;
}

-- between two calls a sweep has rows to look at, or none is under way
abbrev pub IsAtRest : Option Sweep → Type 0
IsAtRest None = Unit {0}
IsAtRest (Some (Homes (row ∷ todo) gone)) = Unit {0}
IsAtRest (Some sweep) = ⊥

-- these are the seat's rows
pub record AreRowsOf (g : Going) (rows : OwnRows) : Type 0 where
  pub sound : IsSound rows
  pub has : HasRows rows (rows_at g.now)
  pub first : rows.first ≡ first_row g.plan g.seat
  pub all : rows.rows ≡ g.plan.rows
  -- each sweep that has freed rows was counted, and each of these rows is free or was published since
  pub sweeps : rows.sweeps ≤ g.now.answered + length g.now.free + 1

-- this is what the seat keeps
pub record IsSeatOf (g : Going) (seat : SeatState) : Type 0 where
  pub rows : AreRowsOf g seat.rows
  pub rest : IsAtRest g.now.sweep
  pub answered : seat.answered ≡ g.now.answered
  pub few : seat.answered ≤ MOST_UPDATES
  pub time : seat.time ≡ g.now.time

-- the call is over, and was told this
pub record HasEnded (first now : Going) (told : Told) : Type 0 where
  pub plan : now.plan ≡ first.plan
  pub holds : now.holds ≡ first.holds
  pub seat : now.seat ≡ first.seat
  pub stand : now.now.stand ≡ Idle
  pub told_is : now.told ≡ Some told

-- what an update tells: its reply, or that no row was free
abbrev pub told_by_update : Option Reply → Told
told_by_update None = Refused
told_by_update (Some reply) = Replied reply

-- a call has begun, and nothing is told of it yet
abbrev pub untold : Going → Going
untold g = record g { told = None }

-- where nothing is to be looked at, all named rows are
abbrev pub taken_up : (todo : List (ℕ × ℕ)) → Rows → Rows
taken_up [] r = record r { named = []; todo = r.named }
taken_up (row ∷ todo) r = r

-- the first free row was put to a bucket's word, or not
abbrev pub row_put : (put : Bool) → Rows → (row : ℕ) (free : List ℕ) (bucket : ℕ) (g : ℕ → ℕ) → Rows
row_put true r row free bucket g = record r { generation = g; free = free; named = r.named ++ (row, bucket) ∷ [] }
row_put false r row free bucket g = r
