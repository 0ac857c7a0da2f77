-- What a table over shared words needs of each step: that its word is one of the table, and that a row that was checked
-- is one of its bucket.
use Rattle.std.specs.Prelude.{◌≡◌, ℕ, ◌<◌, List}
use Rattle.bucket_states.specs.Laws.{IsGood}
use Rattle.bucket_states.specs.Values.{IsSmall}
use Rattle.table_model.specs.Setup.{Setup, rules_of, seats_of}
use Rattle.lasting_model.specs.Plans.{Plan, ample}
use Rattle.lasting_model.specs.Codes.{GENERATION_PLACE, row_in, generation_in, state_words, state_in}
use Rattle.lasting_model.specs.Words.{IsAt}
use Rattle.lasting_model.specs.Steps as S
use Rattle.lasting_model.specs.Steps.{Deed, Nothing, Load, Swap, Stand, Idle, Goes, Glances, CheckRow, Update, Aim, Glance, Peeks, SeatNow, deed_of, glance_deed, bucket_of_update}
use Rattle.lasting_model.specs.Worlds.{Event, IsRun, world_after, seat_in}

-- the next step of a seat that stands here
abbrev pub next_deed : Plan → (seat : ℕ) → SeatNow → Stand → Deed
next_deed plan seat now Idle = Nothing
next_deed plan seat now (Goes u step) = deed_of (ample plan) seat now u step
next_deed plan seat now (Glances aim glance) = glance_deed (ample plan) seat now.time aim glance

-- its word is one of the table
abbrev pub IsOnTable : Plan → Deed → Type 0
IsOnTable plan Nothing = Unit {0}
IsOnTable plan (Load from) = IsAt plan from
IsOnTable plan (S.Store to word) = IsAt plan to
IsOnTable plan (Swap at old new) = IsAt plan at

-- and it is a load
abbrev pub IsLoadThere : Plan → Deed → Type 0
IsLoadThere plan (Load from) = IsAt plan from
IsLoadThere plan deed = ⊥

-- each step of a seat is on a word of the table
abbrev pub StepsAreOnTable : Type 0
StepsAreOnTable =
    (plan : Plan) (events : List Event) (seat : ℕ) → IsRun plan events → seat < plan.settings.seats →
    (let now = seat_in (world_after plan events) seat in IsOnTable plan (next_deed plan seat now now.stand))

-- and each step of a reader is a load of one
abbrev pub PeeksAreOnTable : Type 0
PeeksAreOnTable =
    (plan : Plan) (events : List Event) (reader : ℕ) (aim : Aim) (glance : Glance) → IsRun plan events →
    ((world_after plan events).readers reader).stand ≡ Peeks aim glance →
    IsLoadThere plan (glance_deed (ample plan) 0 0 aim glance)

-- the words behind a generation are those of a bucket
pub record IsRowOf (setup : Setup) (bucket : ℕ) (words : List ℕ) : Type 0 where
  pub spelled : words ≡ state_words setup (state_in setup bucket words)
  pub good : IsGood (rules_of setup) (seats_of setup) (state_in setup bucket words)
  pub small : IsSmall (state_in setup bucket words)

-- a row whose generation is the same after all its words were loaded is one of its bucket
abbrev pub RowsAreOfBuckets : Type 0
RowsAreOfBuckets =
    (plan : Plan) (events : List Event) (seat : ℕ) (u : Update) (turn old : ℕ) (words : List ℕ) → IsRun plan events →
    seat < plan.settings.seats →
    (seat_in (world_after plan events) seat).stand ≡ Goes u (CheckRow turn old words) →
    (world_after plan events).store.row (row_in old) GENERATION_PLACE ≡ generation_in old →
    IsRowOf (ample plan) (bucket_of_update (ample plan) u) words
