-- A piece of a sweep: where an update stands after its steps.
use Rattle.std.specs.Prelude.{◌≡◌, ℕ, ◌+◌, ◌-◌, ◌<◌, ◌≤◌, Bool, true, false, List, [], ◌∷◌, ◌++◌, length, Some}
use Rattle.own_rows.specs.declared.rows.OwnRows.{OwnRows}
use Rattle.own_rows.specs.Rows.{HasRows, IsSound, Rows}
use Rattle.lasting_model.specs.Words.{first_row}
use Rattle.lasting_model.specs.Plans.{PIECE, ample}
use Rattle.lasting_model.specs.Codes.{time_in}
use Rattle.lasting_model.specs.Steps.{Update, Goes, Sweeps, Homes, Seats, Sees}
use Rattle.lasting_model.specs.Goes.{SweepFate, SweepsOn, piece_fate, seats_from, swept, with_free}
use Rattle.lasting_model.specs.Worlds.{seat_after}
use Rattle.lasting_calls.specs.Going.{Going, told_by, with_own}
use Rattle.lasting_calls.specs.Seats.{AreRowsOf, IsAtRest}

-- with these rows
abbrev pub with_rows : Going → (free : List ℕ) (named : List (ℕ × ℕ)) → Going
with_rows g free named = record g { now = record g.now { free = free; named = named } }

-- after a step of a piece that might look at so many rows
abbrev pub swept_to : Going → Update → (left : ℕ) → SweepFate → Going
swept_to g u left next =
    with_own g (seat_after (swept g.now next) u (piece_fate g.now.free left next))
    (told_by (piece_fate g.now.free left next) g.told)

-- a sweep has still to look at some rows, others are gone, and this is its next step
pub record Sweeping (first now : Going) (u : Update) (rows : OwnRows) (left : ℕ) (todo gone : List (ℕ × ℕ))
    (next : SweepFate) : Type 0 where
  pub free : List ℕ
  pub named : List (ℕ × ℕ)
  pub sound : IsSound rows
  pub has : HasRows rows (record {
    generation = first.now.generation;
    free = free;
    named = named;
    todo = todo;
    gone = gone;
  })
  pub first_is : rows.first ≡ first_row first.plan first.seat
  pub all : rows.rows ≡ first.plan.rows
  pub sweeps : rows.sweeps ≤ first.now.answered + length free + 1
  pub goes : now ≡ swept_to (with_rows first free named) u left next

-- the next row is looked at, of less than so many
pub record AtHome (first now : Going) (u : Update) (left : ℕ) (rows : OwnRows) : Type 0 where
  pub row : ℕ × ℕ
  pub todo : List (ℕ × ℕ)
  pub gone : List (ℕ × ℕ)
  pub at : Sweeping first now u rows left (row ∷ todo) gone (SweepsOn [] (Homes (row ∷ todo) gone))

pub record IsAtHome (now : Going) (rows : OwnRows) : Type 0 where
  pub first : Going
  pub update : Update
  pub left : ℕ
  pub more : 1 < left
  pub at : AtHome first now update left rows

-- all seats before this one are looked at. What is gone becomes free at once when all are
pub record AtSeat (first now : Going) (u : Update) (seat : ℕ) (rows : OwnRows) : Type 0 where
  pub left : ℕ
  pub gone : List (ℕ × ℕ)
  pub at : Sweeping first now u rows left [] gone (seats_from (ample first.plan) first.seat seat [] gone)

pub record IsAtSeat (now : Going) (seat : ℕ) (rows : OwnRows) : Type 0 where
  pub first : Going
  pub update : Update
  pub at : AtSeat first now update seat rows

-- a row that was looked at stays named, or is gone
abbrev pub home_put : (stands : Bool) → Rows → (row : ℕ × ℕ) → (todo : List (ℕ × ℕ)) → Rows
home_put true r row todo = record r { named = r.named ++ row ∷ []; todo = todo }
home_put false r row todo = record r { todo = todo; gone = row ∷ r.gone }

-- a row was looked at: all are, or the next one follows
abbrev pub HasLookedHome : (done : Bool) (first now : Going) (u : Update) (left : ℕ) (rows : OwnRows) → Type 0
HasLookedHome true first now u left rows = AtSeat first now u 0 rows
HasLookedHome false first now u left rows = AtHome first now u (left - 1) rows

-- a seat is looked at, as far as its hold word
pub record AtHold (now : Going) (seat : ℕ) : Type 0 where
  pub first : Going
  pub update : Update
  pub left : ℕ
  pub gone : List (ℕ × ℕ)
  pub goes : now ≡ swept_to first update left (SweepsOn [] (Seats seat gone))

-- it asks by this word
pub record IsAsked (now : Going) (seat word : ℕ) : Type 0 where
  pub first : Going
  pub update : Update
  pub left : ℕ
  pub gone : List (ℕ × ℕ)
  pub goes : now ≡ swept_to first update left (SweepsOn [] (Sees seat (time_in word) gone))

-- the piece begins
pub record IsSweeping (g : Going) : Type 0 where
  pub update : Update
  pub row : ℕ × ℕ
  pub todo : List (ℕ × ℕ)
  pub gone : List (ℕ × ℕ)
  pub stand : g.now.stand ≡ Goes update (Sweeps PIECE)
  pub sweep : g.now.sweep ≡ Some (Homes (row ∷ todo) gone)

-- the piece is over: the seat has these rows, and takes a free one
pub record HasSwept (first now : Going) (u : Update) (rows : OwnRows) : Type 0 where
  pub swept : Going
  pub same : swept ≡ record first {
    now = record first.now { free = swept.now.free; named = swept.now.named; sweep = swept.now.sweep };
  }
  pub rest : IsAtRest swept.now.sweep
  pub rows_are : AreRowsOf swept rows
  pub goes : now ≡ with_own swept (seat_after swept.now u (with_free swept.now.free))
      (told_by (with_free swept.now.free) swept.told)
