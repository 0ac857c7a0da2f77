-- Which words are exchanged: a bucket word, or the root.
use Rattle.std.proofs.Common.{ℕ, ◌<◌, subst, arith}
use Rattle.std.specs.Prelude.{Option, Some, None, slice_get}
use Rattle.step_counts.specs.declared.rows.SeatRows.{SeatRows}
use Rattle.word_rows.specs.Shape.{Shape}
use Rattle.word_rows.specs.Places.{IsAddress, bucket_rows_start, place}
use Rattle.table_model.specs.Setup.{Setup}
use Rattle.table_model.specs.declared.events.Put.{Put}
use Rattle.table_model.specs.declared.events.Ask.{Ask}
use Rattle.table_model.specs.declared.events.Ask.TheVariants.{Exchange, Load, Nothing, Store}
use Rattle.table_model.specs.Asks.{ask_in, store_of}
use Rattle.table_model.specs.Phases.{Phase, SeeDone, StoreOp, Announce, FindRoot, FindDepth, FindEntry, LookWord, LookCount, LookItems, TryWord, TryRow, TryAnnouncement, TryOp, TryStore, TryExchange, DirRoot, DirDepth, DirEntries, DirAnnouncement, DirOp, DirWord, DirRow, DirStore, DirExchange, LastWord, LastRow, StoreDone, Stuck}
use Rattle.table_model.specs.SeatStates.{Flight}
use Rattle.table_model.specs.Stores.{directory_puts}
use Rattle.blank_laws.specs.OwnRows.{ExchangesAreElsewhere}

-- what is exchanged stands before all bucket rows
abbrev IsElsewhere : Shape → Ask → Type 0
IsElsewhere shape Nothing = Unit {0}
IsElsewhere shape (Load from) = Unit {0}
IsElsewhere shape (Store to word) = Unit {0}
IsElsewhere shape (Exchange at old new) = IsAddress shape at → place shape at < bucket_rows_start shape

-- a store exchanges nothing
store_elsewhere : (shape : Shape) (put : Option Put) → IsElsewhere shape (store_of put)
store_elsewhere shape None = tt
store_elsewhere shape (Some put) = tt

-- phase by phase
elsewhere : (setup : Setup) (seat : ℕ) (used : SeatRows) (flight : Flight) (phase : Phase) →
    IsElsewhere setup.shape (ask_in setup seat used flight phase)
elsewhere setup seat used flight (TryExchange round attempt found) = λ h. omega (arith, h)
elsewhere setup seat used flight (DirExchange round attempt found loaded) = λ h. omega arith
elsewhere setup seat used flight (DirStore round attempt found loaded stored) =
    store_elsewhere setup.shape (slice_get (directory_puts setup seat used attempt found loaded) stored)
elsewhere setup seat used flight SeeDone = tt
elsewhere setup seat used flight (StoreOp stored) = tt
elsewhere setup seat used flight Announce = tt
elsewhere setup seat used flight (FindRoot aim) = tt
elsewhere setup seat used flight (FindDepth aim root) = tt
elsewhere setup seat used flight (FindEntry aim root depth) = tt
elsewhere setup seat used flight (LookWord root bucket) = tt
elsewhere setup seat used flight (LookCount row) = tt
elsewhere setup seat used flight (LookItems row count words) = tt
elsewhere setup seat used flight (TryWord round turn first) = tt
elsewhere setup seat used flight (TryRow round turn first row words) = tt
elsewhere setup seat used flight (TryAnnouncement round attempt found) = tt
elsewhere setup seat used flight (TryOp round attempt found op words) = tt
elsewhere setup seat used flight (TryStore round attempt found stored) = tt
elsewhere setup seat used flight (DirRoot round turn first) = tt
elsewhere setup seat used flight (DirDepth round turn first root) = tt
elsewhere setup seat used flight (DirEntries round turn first root depth words) = tt
elsewhere setup seat used flight (DirAnnouncement round attempt found) = tt
elsewhere setup seat used flight (DirOp round attempt found op words) = tt
elsewhere setup seat used flight (DirWord round attempt found loaded bucket) = tt
elsewhere setup seat used flight (DirRow round attempt found loaded bucket row words) = tt
elsewhere setup seat used flight (LastWord root bucket) = tt
elsewhere setup seat used flight (LastRow row words) = tt
elsewhere setup seat used flight (StoreDone reply at) = tt
elsewhere setup seat used flight Stuck = tt

-- so each exchange is elsewhere
pub exchanges_are_elsewhere : ExchangesAreElsewhere
exchanges_are_elsewhere setup seat old new used flight phase at is inside =
    subst (IsElsewhere setup.shape) is (elsewhere setup seat used flight phase) inside
