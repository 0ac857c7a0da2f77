-- What a reader is told that takes no steps in a run: the reply of the plain map at one moment while it reads.
-- Source: this project's own; that each reply is that of one moment within the call is linearizability, after Herlihy
-- and Wing, "Linearizability: a correctness condition for concurrent objects", 1990.
use Rattle.std.specs.Prelude.{◌≡◌, ℕ, List, ◌++◌}
use Rattle.plain_map.specs.declared.keys.Key.{Key}
use Rattle.plain_map.specs.declared.calls.Call.TheVariants.{Lookup}
use Rattle.plain_map.specs.declared.calls.Reply.{Reply}
use Rattle.plain_map.specs.PlainObject.{reply_of}
use Rattle.bucket_states.specs.Items.{reply_in}
use Rattle.table_model.specs.declared.events.Event.{Event}
use Rattle.table_model.specs.Setup.{Setup, rules_of}
use Rattle.table_model.specs.Worlds.{IsRun}
use Rattle.table_model.specs.Reading.{bucket_at, bucket_by, current_row, root_of, row_of}
use Rattle.table_model.specs.Promises.{words_in}
use Rattle.table_model.specs.Histories.{sessions_of_order}

-- the moment is no earlier than the first, and no later than the last
pub record IsMomentBetween (first last moment : List Event) : Type 0 where
  pub before : List Event
  pub after : List Event
  pub from_first : moment ≡ first ++ before
  pub to_last : last ≡ moment ++ after

-- the reply of the plain map to a lookup of the key, by what it holds after the one order of the calls of these events
abbrev pub reply_then : Setup → (moment : List Event) → Key → Reply
reply_then setup moment key = reply_of (rules_of setup) (sessions_of_order setup moment) (Lookup key)

-- at some moment from the first to the last the plain map has this reply
pub record WasHeld (setup : Setup) (first last : List Event) (key : Key) (reply : Reply) : Type 0 where
  pub moment : List Event
  pub between : IsMomentBetween first last moment
  pub reply_is : reply ≡ reply_then setup moment key

-- the current row of a key answers as the plain map does
abbrev pub CurrentRowsReply : Type 0
CurrentRowsReply =
    (setup : Setup) (events : List Event) (key : Key) → IsRun setup events →
    (let words = words_in setup events in
    reply_in (rules_of setup) (bucket_at setup.shape words (current_row setup words key)).items (Lookup key)
    ≡ reply_then setup events key)

-- this row was the current one of the key at some moment from the first to the last
pub record WasCurrent (setup : Setup) (first last : List Event) (key : Key) (row : ℕ) : Type 0 where
  pub moment : List Event
  pub between : IsMomentBetween first last moment
  pub is : row ≡ current_row setup (words_in setup moment) key

-- so it is with the row in use of the bucket that was the key's at an earlier moment
abbrev pub RowsWereCurrent : Type 0
RowsWereCurrent =
    (setup : Setup) (events later : List Event) (key : Key) → IsRun setup (events ++ later) →
    (let first = words_in setup events in
    let last = words_in setup (events ++ later) in
    WasCurrent setup events (events ++ later) key
    (row_of setup.shape last (bucket_by setup first (root_of setup.shape first) key)))
