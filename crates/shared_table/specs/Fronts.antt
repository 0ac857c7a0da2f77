-- What a reader knows, which is no seat: what its table was opened with, the first events of the run, and the words
-- that it has found, one after the other, each with the events that had come by then.
use Rattle.std.specs.Prelude.{◌≡◌, ℕ, List, ◌++◌}
use Rattle.table_model.specs.declared.events.Event.{Event}
use Rattle.table_model.specs.Setup.{Setup}

-- the events that it knows are a front of the run
pub record Front : Type 0 where
  pub setup : Setup
  pub known : List Event
  pub heard : List ℕ
  pub times : List (List Event)

-- of this run
pub record IsFrontOf (setup : Setup) (events : List Event) (front : Front) : Type 0 where
  pub opened : front.setup ≡ setup
  pub later : List Event
  pub is : events ≡ front.known ++ later
