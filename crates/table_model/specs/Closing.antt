-- What a closed table leaves, with the records by seat.
use Rattle.std.specs.Prelude.{◌≡◌, ℕ, List, Vec, [], map, slice_index_or, flat_map}
use Rattle.std.specs.Borrow.{Bor}
use Rattle.std.specs.declared.alloc.Global.{Global}
use Rattle.plain_map.specs.declared.records.Record.{Record}
use Rattle.plain_map.specs.declared.records.Pending.{Pending}
use Rattle.word_rows.specs.Shape.{Shape}
use Rattle.table_model.specs.declared.events.Event.{Event}
use Rattle.table_model.specs.Setup.{Setup}
use Rattle.table_model.specs.SeatStates.{SeatState}
use Rattle.table_model.specs.Worlds.{IsRun, world_after}
use Rattle.table_model.specs.Closed.{begun_of}
use Rattle.table_model.specs.Order.{Closing}

-- the closing with these words, these records of each seat, and these calls that had begun
abbrev pub closing_with : List ℕ → List (List Record) → List Pending → Closing
closing_with words logs begun = record { words = words; records = flat_map (λ log. log) logs; begun = begun }

-- the records of a seat
abbrev pub log_of : List (List Record) → (seat : ℕ) → List Record
log_of logs seat = slice_index_or logs seat []

-- the records of one seat, where they stand
abbrev pub records_there : List (Bor Record) → List Record
records_there log = map (λ r. r.now) log

-- the records of each seat, where they stand
abbrev pub read_in : List (Vec (Bor Record) Global) → List (List Record)
read_in logs = map (λ log. records_there log.items) logs

-- a run left these words, these records of each seat, and these calls that had begun
pub record IsOfARun (shape : Shape) (words : List ℕ) (logs : List (List Record)) (begun : List Pending) : Type 0 where
  pub setup : Setup
  pub events : List Event
  pub run : IsRun setup events
  pub shape_is : setup.shape ≡ shape
  pub words_are : (world_after setup events).words ≡ words
  pub logs_are : map (λ (state : SeatState). state.account.records) (world_after setup events).seats ≡ logs
  pub begun_are : begun_of (world_after setup events) ≡ begun
