-- The words of the bucket rows that a seat has for its own use. They stand side by side: each is 0 at the opening, and
-- changes by the seat's own stores alone.
use Rattle.std.specs.Prelude.{◌≡◌, ℕ, ◌+◌, ◌<◌, ◌≤◌, List, ◌++◌, slice_index}
use Rattle.step_counts.specs.declared.rows.SeatRows.{SeatRows}
use Rattle.plain_map.specs.declared.full.FullKind.TheVariants.{BucketRows}
use Rattle.word_rows.specs.declared.addresses.Address.{Address}
use Rattle.word_rows.specs.declared.addresses.Address.TheVariants.{BucketRowWord}
use Rattle.word_rows.specs.Shape.{Shape, of_kind, first_number, sizes_of}
use Rattle.word_rows.specs.Places.{IsAddress, bucket_rows_start, place}
use Rattle.table_model.specs.declared.events.Event.{Event}
use Rattle.table_model.specs.Setup.{Setup, IsSetup, seats_of}
use Rattle.table_model.specs.declared.events.Ask.TheVariants.{Exchange}
use Rattle.table_model.specs.Asks.{ask_in}
use Rattle.table_model.specs.Phases.{Phase}
use Rattle.table_model.specs.SeatStates.{Flight}
use Rattle.table_model.specs.Worlds.{IsRun, events_of, opening_words, world_after}

-- the place of the first word of a seat's own bucket rows
abbrev pub own_start : Shape → (seat : ℕ) → ℕ
own_start shape seat = place shape (BucketRowWord (first_number shape seat BucketRows) 0)

-- the place behind the last of them
abbrev pub own_end : Shape → (seat : ℕ) → ℕ
own_end shape seat =
    place shape (BucketRowWord (first_number shape seat BucketRows + of_kind BucketRows (sizes_of shape seat)) 0)

-- a place among them
pub record IsOwnPlace (shape : Shape) (seat at : ℕ) : Type 0 where
  pub from : own_start shape seat ≤ at
  pub below : at < own_end shape seat

-- at the opening each is 0
abbrev pub OwnRowsOpenBlank : Type 0
OwnRowsOpenBlank =
    (setup : Setup) (seat at : ℕ) → IsSetup setup → seat < seats_of setup → IsOwnPlace setup.shape seat at →
    slice_index (opening_words setup) at ≡ 0

-- while a seat takes no step, each keeps what it holds
abbrev pub OthersLeaveOwnRows : Type 0
OthersLeaveOwnRows =
    (setup : Setup) (events later : List Event) (seat at : ℕ) → IsRun setup (events ++ later) → seat < seats_of setup →
    events_of seat later ≡ 0 → IsOwnPlace setup.shape seat at →
    slice_index (world_after setup (events ++ later)).words at ≡ slice_index (world_after setup events).words at

-- an exchange is on a word that stands before all bucket rows
abbrev pub ExchangesAreElsewhere : Type 0
ExchangesAreElsewhere =
    (setup : Setup) (seat old new : ℕ) (used : SeatRows) (flight : Flight) (phase : Phase) (at : Address) →
    ask_in setup seat used flight phase ≡ Exchange at old new → IsAddress setup.shape at →
    place setup.shape at < bucket_rows_start setup.shape
