-- What a seat does next, by its phase.
use Rattle.std.specs.Prelude.{ℕ, ◌+◌, length, Option, Some, None, slice_get, slice_index}
use Rattle.step_counts.specs.declared.TheConstants.{BUCKET_HEAD_WORDS, COUNT_PLACE, DIRECTORY_HEAD_WORDS}
use Rattle.step_counts.specs.declared.rows.SeatRows.{SeatRows}
use Rattle.plain_map.specs.declared.full.FullKind.TheVariants.{OpRows, BucketRows, DirRows}
use Rattle.word_rows.specs.declared.ops.OpRow.{OpRow}
use Rattle.word_rows.specs.Shape.{Shape}
use Rattle.word_rows.specs.declared.addresses.Address.TheVariants.{Root, Announcement, Done, BucketWord, OpWord, BucketRowWord, DirectoryWord}
use Rattle.word_rows.specs.Places.{place}
use Rattle.word_rows.specs.OpWords.{words_of_op}
use Rattle.plain_map.specs.Calls.{key_in}
use Rattle.bucket_states.specs.Items.{prefix_of}
pub use Rattle.table_model.specs.declared.events.Ask.{Ask}
pub use Rattle.table_model.specs.declared.events.Ask.TheVariants.{Nothing, Load, Store, Exchange}
use Rattle.table_model.specs.declared.events.Action.{Action}
use Rattle.table_model.specs.declared.events.Action.TheVariants as Act
use Rattle.table_model.specs.Setup.{Setup, rules_of, next_number}
use Rattle.table_model.specs.Phases.{Phase, SeeDone, StoreOp, Announce, FindRoot, FindDepth, FindEntry, LookWord, LookCount, LookItems, TryWord, TryRow, TryAnnouncement, TryOp, TryStore, TryExchange, DirRoot, DirDepth, DirEntries, DirAnnouncement, DirOp, DirWord, DirRow, DirStore, DirExchange, LastWord, LastRow, StoreDone, Stuck}
use Rattle.table_model.specs.SeatStates.{Flight, Account, Stand, Idle, InFlight}
use Rattle.table_model.specs.Stores.{Put, bucket_words, made_bucket, directory_puts}

-- the store of one of these words. Past the last of them there is nothing to do
abbrev pub store_of : Option Put → Ask
store_of None = Nothing
store_of (Some put) = Store put.address put.word

-- the op of an update, as it is announced
abbrev pub op_row_of : Flight → OpRow
op_row_of flight = record { number = flight.number; call = flight.call }

-- what the seat does next. used is what it has published
abbrev pub ask_in : Setup → (seat : ℕ) → SeatRows → Flight → Phase → Ask
ask_in setup seat used flight SeeDone = Load (Done (length flight.seen))
ask_in setup seat used flight (StoreOp stored) =
    Store (OpWord (next_number setup seat OpRows used) stored) (slice_index (words_of_op (op_row_of flight)) stored)
ask_in setup seat used flight Announce = Store (Announcement seat) (next_number setup seat OpRows used + 1)
ask_in setup seat used flight (FindRoot aim) = Load Root
ask_in setup seat used flight (FindDepth aim root) = Load (DirectoryWord root 0)
ask_in setup seat used flight (FindEntry aim root depth) =
    Load (DirectoryWord root (DIRECTORY_HEAD_WORDS + prefix_of (rules_of setup) depth (key_in flight.call)))
ask_in setup seat used flight (LookWord root bucket) = Load (BucketWord bucket)
ask_in setup seat used flight (LookCount row) = Load (BucketRowWord row COUNT_PLACE)
ask_in setup seat used flight (LookItems row count words) = Load (BucketRowWord row (BUCKET_HEAD_WORDS + length words))
ask_in setup seat used flight (TryWord round turn first) = Load (BucketWord round.bucket)
ask_in setup seat used flight (TryRow round turn first row words) = Load (BucketRowWord row (length words))
ask_in setup seat used flight (TryAnnouncement round attempt found) = Load (Announcement (length found))
ask_in setup seat used flight (TryOp round attempt found op words) = Load (OpWord op (length words))
ask_in setup seat used flight (TryStore round attempt found stored) =
    Store (BucketRowWord (next_number setup seat BucketRows used) stored)
    (slice_index (bucket_words setup (Some attempt.row) (made_bucket setup attempt found)) stored)
ask_in setup seat used flight (TryExchange round attempt found) =
    Exchange (BucketWord round.bucket) attempt.row (next_number setup seat BucketRows used)
ask_in setup seat used flight (DirRoot round turn first) = Load Root
ask_in setup seat used flight (DirDepth round turn first root) = Load (DirectoryWord root 0)
ask_in setup seat used flight (DirEntries round turn first root depth words) =
    Load (DirectoryWord root (DIRECTORY_HEAD_WORDS + length words))
ask_in setup seat used flight (DirAnnouncement round attempt found) = Load (Announcement (length found))
ask_in setup seat used flight (DirOp round attempt found op words) = Load (OpWord op (length words))
ask_in setup seat used flight (DirWord round attempt found loaded bucket) = Load (BucketWord bucket)
ask_in setup seat used flight (DirRow round attempt found loaded bucket row words) =
    Load (BucketRowWord row (length words))
ask_in setup seat used flight (DirStore round attempt found loaded stored) =
    store_of (slice_get (directory_puts setup seat used attempt found loaded) stored)
ask_in setup seat used flight (DirExchange round attempt found loaded) =
    Exchange Root attempt.root (next_number setup seat DirRows used)
ask_in setup seat used flight (LastWord root bucket) = Load (BucketWord bucket)
ask_in setup seat used flight (LastRow row words) = Load (BucketRowWord row (length words))
ask_in setup seat used flight (StoreDone reply place) = Store (Done seat) flight.number
ask_in setup seat used flight Stuck = Nothing

-- and by its state: an idle seat does nothing
abbrev pub next : Setup → (seat : ℕ) → Account → Stand → Ask
next setup seat account Idle = Nothing
next setup seat account (InFlight flight phase) = ask_in setup seat account.used flight phase

-- what is asked, with words by their numbers
abbrev pub action_of : Shape → Ask → Action
action_of shape Nothing = Act.Finished
action_of shape (Load from) = Act.Load (place shape from)
action_of shape (Store to word) = Act.Store (place shape to) word
action_of shape (Exchange at old new) = Act.Exchange (place shape at) old new
