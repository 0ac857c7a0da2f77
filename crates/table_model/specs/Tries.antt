-- The promises about every run that speak of what a try has found: what it may change, and what a lost exchange shows.
use Rattle.std.specs.Prelude.{◌≡◌, ◌≢◌, ℕ, ◌+◌, ◌<◌, ◌⊎◌, true, false, List, length, map, Option, IsSomeAnd}
use Rattle.plain_map.specs.declared.full.FullKind.TheVariants.{BucketWords}
use Rattle.plain_map.specs.Calls.{key_in}
use Rattle.bucket_states.specs.declared.ops.Op.{Op}
use Rattle.table_model.specs.declared.events.Event.{Event}
use Rattle.table_model.specs.Setup.{Setup, seats_of, rules_of, next_number}
use Rattle.table_model.specs.DirectoryChange.{LoadedBucket, loaded_of, is_frozen_without}
use Rattle.table_model.specs.DirectoryLaws.{CanChange}
use Rattle.table_model.specs.Phases.{Phase, Round, BucketTry, DirectoryTry, TryExchange, DirStore, DirExchange}
use Rattle.table_model.specs.SeatStates.{Flight}
use Rattle.table_model.specs.Stores.{made_leaves}
use Rattle.table_model.specs.Worlds.{IsRun, world_after, seat_in}
use Rattle.table_model.specs.Reading.{bucket_row, is_among, each_once, named_buckets, current_row, root_of, row_of}
use Rattle.table_model.specs.Promises.{words_in, InUpdate, IsAppliedIn}
use Rattle.table_model.specs.Helped.{op_of}

-- the load that follows a second lost exchange of a bucket word shows the update applied, or the bucket frozen
abbrev pub LostBucketsShow : Type 0
LostBucketsShow =
    (setup : Setup) (events : List Event) (seat : ℕ) (flight : Flight) (round : Round) (attempt : BucketTry)
    (found : List (Option Op)) →
    IsRun setup events → InUpdate setup events seat flight (TryExchange round attempt found) → attempt.turn ≡ 2 →
    (let words = words_in setup events in
    let row = row_of setup.shape words round.bucket in
    row ≢ attempt.row →
    IsAppliedIn setup words seat flight row ⊎ ((bucket_row setup.shape words row).frozen ≡ true))

-- where a second exchange of the root is lost, the update is applied in the current row of its key
abbrev pub LostRootsShow : Type 0
LostRootsShow =
    (setup : Setup) (events : List Event) (seat : ℕ) (flight : Flight) (round : Round) (attempt : DirectoryTry)
    (found : List (Option Op)) (loaded : List LoadedBucket) →
    IsRun setup events → InUpdate setup events seat flight (DirExchange round attempt found loaded) → attempt.turn ≡ 2 →
    (let words = words_in setup events in
    root_of setup.shape words ≢ attempt.root →
    IsAppliedIn setup words seat flight (current_row setup words (key_in flight.call)))

-- what a directory try has found, once all is loaded: its directory can be changed by it, each bucket stands once, the
-- one of the round was frozen without the update, and no directory names one of the new buckets yet
pub record HasFound (setup : Setup) (words : List ℕ) (seat fresh : ℕ) (flight : Flight) (round : Round)
    (attempt : DirectoryTry)
    (found : List (Option Op)) (loaded : List LoadedBucket) : Type 0 where
  pub can : CanChange (rules_of setup) (seats_of setup) attempt.directory loaded found
  pub once : each_once (map (λ l. l.bucket) loaded) ≡ map (λ l. l.bucket) loaded
  pub own : IsSomeAnd (loaded_of loaded round.bucket) (λ l. is_frozen_without seat (op_of seat flight) l ≡ true)
  pub new : (i : ℕ) → i < length (made_leaves setup attempt found loaded) →
      is_among (named_buckets setup.shape words) (fresh + i) ≡ false

-- every directory try has found so, from its first store on
abbrev pub TriesCanChange : Type 0
TriesCanChange =
    (setup : Setup) (events : List Event) (seat stored : ℕ) (flight : Flight) (phase : Phase) (round : Round)
    (attempt : DirectoryTry) (found : List (Option Op)) (loaded : List LoadedBucket) →
    IsRun setup events → InUpdate setup events seat flight phase →
    (phase ≡ DirStore round attempt found loaded stored) ⊎ (phase ≡ DirExchange round attempt found loaded) →
    HasFound setup (words_in setup events) seat
    (next_number setup seat BucketWords
    (seat_in (world_after setup events) seat).account.used) flight round attempt found loaded
