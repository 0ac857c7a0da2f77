-- What it means that a shared table shows a run: its words are those of the run, and its views hold the states of the
-- seats.
use Rattle.std.specs.Prelude.{◌≡◌, ℕ, ◌<◌, ◌==◌, List, ◌++◌, All, count_by, sum_by}
use Rattle.table_model.specs.declared.events.Event.{Event}
use Rattle.table_model.specs.Setup.{Setup, seats_of}
use Rattle.table_model.specs.SeatStates.{SeatState}
use Rattle.table_model.specs.Worlds.{IsRun, world_after, seat_in, events_of}

-- one seat as a view holds it: with what the table was opened with, the seat's state, and the beginning of the run that
-- it knows
pub record Holding : Type 0 where
  pub setup : Setup
  pub seat : ℕ
  pub state : SeatState
  pub known : List Event

-- what a view of the table holds: a bundle of seats, of which none is left where it was joined to another
abbrev pub Bundle : Type 0
Bundle = List Holding

-- the holding is that of a seat of this run, and knows all of the seat's own events
pub record IsOfRun (setup : Setup) (events : List Event) (holding : Holding) : Type 0 where
  pub opened : holding.setup ≡ setup
  pub seat : holding.seat < seats_of setup
  pub state : holding.state ≡ seat_in (world_after setup events) holding.seat
  pub later : List Event
  pub known : events ≡ holding.known ++ later
  pub own : events_of holding.seat later ≡ 0

-- how many holdings of the seat there are
abbrev pub times_in : (seat : ℕ) → List Bundle → ℕ
times_in seat views = sum_by (λ bundle. count_by (λ holding. holding.seat == seat) bundle) views

-- there is a run whose world has these words, and each seat's state stands in one view
pub record Shows (setup : Setup) (words : List ℕ) (views : List Bundle) : Type 0 where
  pub events : List Event
  pub is_run : IsRun setup events
  pub same_words : words ≡ (world_after setup events).words
  pub of_run : All (λ bundle. All (IsOfRun setup events) bundle) views
  pub once : (seat : ℕ) → seat < seats_of setup → times_in seat views ≡ 1
