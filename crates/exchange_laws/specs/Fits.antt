-- What a table over shared words needs of a row that it has read: that it is one of its bucket, whose values can be
-- kept.
use Rattle.std.specs.Prelude.{◌≡◌, ℕ, ◌<◌, ◌≤◌, List, length, All}
use Rattle.plain_map.specs.declared.calls.Call.{Call}
use Rattle.plain_map.specs.declared.keys.Pair.{Pair}
use Rattle.plain_map.specs.Keys.{IsKey}
use Rattle.plain_map.specs.PlainObject.{InRange}
use Rattle.plain_map.specs.Updates.{IsSmallPair, IsUpdateReply}
use Rattle.bucket_states.specs.Parts.{HasDistinctKeys, HasPrefix}
use Rattle.exchange_model.specs.Plans.{Plan, rules_of}
use Rattle.exchange_model.specs.Codes.{Entry, Row, row_of_words}
use Rattle.exchange_model.specs.Steps.{Goes, CheckWord, bucket_of_call}
use Rattle.exchange_model.specs.Worlds.{Event, IsRun, world_after, seat_in}

-- a row of small pairs: no more than there is room for, and with replies of updates
pub record IsKeptRow (plan : Plan) (row : Row) : Type 0 where
  pub few : length row.items ≤ plan.settings.items
  pub keys : All (λ (pair : Pair). IsKey pair.key) row.items
  pub values : All (λ (pair : Pair). IsSmallPair pair) row.items
  pub replies : All (λ (entry : Entry). IsUpdateReply entry.reply) row.entries

-- words that were loaded while the bucket word was the same spell a row that can be kept
abbrev pub RowsAreKept : Type 0
RowsAreKept =
    (plan : Plan) (events : List Event) (seat turn old : ℕ) (call : Call) (words : List ℕ) → IsRun plan events →
    seat < plan.settings.seats → (seat_in (world_after plan events) seat).stand ≡ Goes call (CheckWord turn old words) →
    (world_after plan events).store.bucket (bucket_of_call plan call) ≡ old → IsKeptRow plan (row_of_words plan words)

-- a row of a bucket: its keys are of the bucket's class, and none stands twice
pub record IsRowOf (plan : Plan) (bucket : ℕ) (row : Row) : Type 0 where
  pub distinct : HasDistinctKeys row.items
  pub inside : HasPrefix (rules_of plan) bucket plan.settings.depth row.items

-- and it is one of its bucket
abbrev pub RowsAreOfBuckets : Type 0
RowsAreOfBuckets =
    (plan : Plan) (events : List Event) (seat turn old : ℕ) (call : Call) (words : List ℕ) → IsRun plan events →
    InRange (rules_of plan) → seat < plan.settings.seats →
    (seat_in (world_after plan events) seat).stand ≡ Goes call (CheckWord turn old words) →
    (world_after plan events).store.bucket (bucket_of_call plan call) ≡ old →
    IsRowOf plan (bucket_of_call plan call) (row_of_words plan words)
