-- What helping gives, as facts about every run. The facts of the first part speak of an update in flight, and are what
-- the bounds and the order rest on. Those of the second part speak of every update that was ever announced. A row is
-- later than another where it was made from it, at once or in the end: where it stands before it in the line of its
-- bucket, or of the directory.
-- Source: this project's own. That a caller's op is carried out by those who win against it is the idea of helping in
-- Fatourou, Kallimanis and Ropars, "An Efficient Wait-free Resizable Hash Table", SPAA 2018.
use Rattle.std.specs.Prelude.{◌≡◌, ◌≢◌, ℕ, ◌<◌, ◌≤◌, ◌⊎◌, true, false, List, ◌∷◌, ◌++◌, length, Option, Some, None, IsSomeAnd, slice_index_or}
use Rattle.std.specs.Option.{option_map_or}
use Rattle.plain_map.specs.declared.keys.Key.{Key}
use Rattle.plain_map.specs.Calls.{key_in}
use Rattle.word_rows.specs.Shape.{Shape}
use Rattle.bucket_states.specs.declared.ops.Op.{Op}
use Rattle.table_model.specs.declared.events.Event.{Event}
use Rattle.table_model.specs.Setup.{Setup}
use Rattle.table_model.specs.DirectoryChange.{LoadedBucket, loaded_of}
use Rattle.table_model.specs.Phases.{Phase}
use Rattle.table_model.specs.SeatStates.{Flight}
use Rattle.table_model.specs.Worlds.{IsRun}
use Rattle.table_model.specs.Reading.{bucket_row, directory_row, directory_at, is_among, directory_rows, named_buckets, rows_of_bucket, bucket_by, first_row}
use Rattle.table_model.specs.Helping.{TriedRow, Attempt, first_root_in, tried_from, directory_tried_from, bucket_attempt, directory_attempt, has_announced}
use Rattle.table_model.specs.Promises.{InUpdate, InPhase, Among, IsAppliedIn, words_in}

-- the op of an update
abbrev pub op_of : (seat : ℕ) → Flight → Op
op_of seat flight = record { seat = seat; number = flight.number; call = flight.call }

-- what a try has found of a seat that it has gone past
abbrev pub found_of : Attempt → (seat : ℕ) → Option Op
found_of attempt seat = slice_index_or attempt.found seat None

abbrev pub IsPast : Attempt → (seat : ℕ) → Type 0
IsPast attempt seat = seat < length attempt.found

-- the number of what it has found, 0 for none
abbrev pub number_found : Attempt → (seat : ℕ) → ℕ
number_found attempt seat = option_map_or (λ op. op.number) (found_of attempt seat) 0

-- in a line, which has the latest row first, the one row is later than the other
pub record IsLater (line : List ℕ) (row other : ℕ) : Type 0 where
  pub front : List ℕ
  pub middle : List ℕ
  pub back : List ℕ
  pub cut : line ≡ front ++ row ∷ middle ++ other ∷ back

-- the row was made from a base that is later than the row that was loaded
pub record IsTwoLater (line : List ℕ) (loaded row base : ℕ) : Type 0 where
  pub front : List ℕ
  pub middle : List ℕ
  pub back : List ℕ
  pub cut : line ≡ front ++ row ∷ base ∷ middle ++ loaded ∷ back

-- the directory row names the bucket
abbrev pub Names : Shape → List ℕ → (row bucket : ℕ) → Type 0
Names shape words row bucket = is_among (directory_at shape words row).entries bucket ≡ true

abbrev pub NamesNot : Shape → List ℕ → (row bucket : ℕ) → Type 0
NamesNot shape words row bucket = is_among (directory_at shape words row).entries bucket ≡ false

-- the update is applied in the first row of the bucket that this directory row names for its key
abbrev pub IsInFirstRow : Setup → List ℕ → (seat : ℕ) → Flight → (row : ℕ) → Type 0
IsInFirstRow setup words seat flight row =
    IsSomeAnd (first_row setup.shape words (bucket_by setup words row (key_in flight.call)))
    (IsAppliedIn setup words seat flight)

-- UPDATES IN FLIGHT

-- a bucket try at the bucket of a round, of a later row than the first try of the round loaded, finds the op
abbrev pub LaterBucketTriesKnow : Type 0
LaterBucketTriesKnow =
    (setup : Setup) (events : List Event) (p q : ℕ) (mine theirs : Flight) (phase other : Phase) (tried : TriedRow)
    (attempt : Attempt) →
    IsRun setup events → p ≢ q → InUpdate setup events p mine phase → InPhase setup events q theirs other →
    tried_from phase ≡ Some tried → bucket_attempt other ≡ Some attempt → attempt.bucket ≡ tried.bucket →
    IsLater (rows_of_bucket setup.shape (words_in setup events) tried.bucket) attempt.row tried.row → IsPast attempt p →
    found_of attempt p ≡ Some (op_of p mine)

-- a row of that bucket that was made from such a later row has the op, or is frozen
abbrev pub LaterRowsHave : Type 0
LaterRowsHave =
    (setup : Setup) (events : List Event) (p row base : ℕ) (mine : Flight) (phase : Phase) (tried : TriedRow) →
    IsRun setup events → InUpdate setup events p mine phase → tried_from phase ≡ Some tried →
    IsTwoLater (rows_of_bucket setup.shape (words_in setup events) tried.bucket) tried.row row base →
    IsAppliedIn setup (words_in setup events) p mine row
    ⊎ ((bucket_row setup.shape (words_in setup events) row).frozen ≡ true)

-- a directory try with a later root than the first find of the update finds the op
abbrev pub LaterDirectoryTriesKnow : Type 0
LaterDirectoryTriesKnow =
    (setup : Setup) (events : List Event) (p q first : ℕ) (mine theirs : Flight) (phase other : Phase)
    (attempt : Attempt) →
    IsRun setup events → p ≢ q → InUpdate setup events p mine phase → InPhase setup events q theirs other →
    first_root_in phase ≡ Some first → directory_attempt other ≡ Some attempt →
    IsLater (directory_rows setup.shape (words_in setup events)) attempt.row first → IsPast attempt p →
    found_of attempt p ≡ Some (op_of p mine)

-- where a directory row that was made from such a later root has another bucket for the key, its first row has the op
abbrev pub LaterReplacementsCarry : Type 0
LaterReplacementsCarry =
    (setup : Setup) (events : List Event) (p first row base : ℕ) (mine : Flight) (phase : Phase) →
    IsRun setup events → InUpdate setup events p mine phase → first_root_in phase ≡ Some first →
    IsTwoLater (directory_rows setup.shape (words_in setup events)) first row base →
    bucket_by setup (words_in setup events) row (key_in mine.call) ≢ bucket_by setup (words_in setup events) base
    (key_in mine.call) →
    IsInFirstRow setup (words_in setup events) p mine row

-- a directory try with a later root than the first directory try of the round has loaded the bucket of the round
-- frozen, where it has loaded it
abbrev pub LaterDirectoryTriesSeeFrozen : Type 0
LaterDirectoryTriesSeeFrozen =
    (setup : Setup) (events : List Event) (p q : ℕ) (mine theirs : Flight) (phase other : Phase) (tried : TriedRow)
    (attempt : Attempt)
    (loaded : LoadedBucket) →
    IsRun setup events → InUpdate setup events p mine phase → InPhase setup events q theirs other →
    directory_tried_from phase ≡ Some tried → directory_attempt other ≡ Some attempt →
    IsLater (directory_rows setup.shape (words_in setup events)) attempt.row tried.row →
    loaded_of attempt.loaded tried.bucket ≡ Some loaded → loaded.state.frozen ≡ true

-- a directory row that was made from such a later root does not name the bucket of the round for the key
abbrev pub LaterChangesReplace : Type 0
LaterChangesReplace =
    (setup : Setup) (events : List Event) (p row base : ℕ) (mine : Flight) (phase : Phase) (tried : TriedRow) →
    IsRun setup events → InUpdate setup events p mine phase → directory_tried_from phase ≡ Some tried →
    IsTwoLater (directory_rows setup.shape (words_in setup events)) tried.row row base →
    bucket_by setup (words_in setup events) row (key_in mine.call) ≢ tried.bucket

-- EVERY ANNOUNCED UPDATE

-- After a bucket try of the update had loaded a row, then ever after: a row of the bucket that was made from a later
-- one has the op or is frozen
abbrev pub AnnouncedInLaterRows : Type 0
AnnouncedInLaterRows =
    (setup : Setup) (events later : List Event) (p row base : ℕ) (mine : Flight) (phase : Phase) (attempt : Attempt) →
    IsRun setup (events ++ later) → InUpdate setup events p mine phase → bucket_attempt phase ≡ Some attempt →
    IsTwoLater (rows_of_bucket setup.shape (words_in setup (events ++ later)) attempt.bucket) attempt.row row base →
    IsAppliedIn setup (words_in setup (events ++ later)) p mine row
    ⊎ ((bucket_row setup.shape (words_in setup (events ++ later)) row).frozen ≡ true)

-- and a seat in a bucket try there that has found an older op of the seat, or none, has loaded that row or one before
-- it
abbrev pub AnnouncedToLaterTries : Type 0
AnnouncedToLaterTries =
    (setup : Setup) (events later : List Event) (p q : ℕ) (mine theirs : Flight) (phase other : Phase)
    (attempt another : Attempt) →
    IsRun setup (events ++ later) → InUpdate setup events p mine phase → bucket_attempt phase ≡ Some attempt →
    InPhase setup (events ++ later) q theirs other → bucket_attempt other ≡ Some another →
    another.bucket ≡ attempt.bucket →
    IsPast another p → number_found another p < mine.number →
    (another.row ≡ attempt.row)
    ⊎ IsLater (rows_of_bucket setup.shape (words_in setup (events ++ later)) attempt.bucket) attempt.row another.row

-- After a directory try of the update had loaded a root that names the bucket of the round, which was frozen without
-- the op, then ever after: a directory row that was made from a later one replaces the bucket where that one still
-- names it, and the first row of the key's new bucket has the op
abbrev pub AnnouncedInLaterDirectories : Type 0
AnnouncedInLaterDirectories =
    (setup : Setup) (events later : List Event) (p row base : ℕ) (mine : Flight) (phase : Phase) (attempt : Attempt) →
    IsRun setup (events ++ later) → InUpdate setup events p mine phase → directory_attempt phase ≡ Some attempt →
    IsTwoLater (directory_rows setup.shape (words_in setup (events ++ later))) attempt.row row base →
    Names setup.shape (words_in setup (events ++ later)) base attempt.bucket →
    NamesNot setup.shape (words_in setup (events ++ later)) row attempt.bucket
    × IsInFirstRow setup (words_in setup (events ++ later)) p mine row

-- and a seat in a directory try with a later root has found the op or a later one of the seat
abbrev pub AnnouncedToLaterRoots : Type 0
AnnouncedToLaterRoots =
    (setup : Setup) (events later : List Event) (p q : ℕ) (mine theirs : Flight) (phase other : Phase)
    (attempt another : Attempt) →
    IsRun setup (events ++ later) → InUpdate setup events p mine phase → directory_attempt phase ≡ Some attempt →
    InPhase setup (events ++ later) q theirs other → directory_attempt other ≡ Some another →
    IsLater (directory_rows setup.shape (words_in setup (events ++ later))) another.row attempt.row → IsPast another p →
    mine.number ≤ number_found another p

-- a bucket of the key was first named after the update was announced
pub record IsNewFor (setup : Setup) (before now : List ℕ) (key : Key) (row bucket : ℕ) : Type 0 where
  pub published : Among (directory_rows setup.shape now) row
  pub for_key : bucket_by setup now row key ≡ bucket
  pub not_before : is_among (named_buckets setup.shape before) bucket ≡ false

-- Of a bucket of the key that was first named after the update was announced: a directory row that was made from one
-- that names it, and does not name it, has a bucket for the key whose first row has the op
abbrev pub AnnouncedInNewBuckets : Type 0
AnnouncedInNewBuckets =
    (setup : Setup) (events later : List Event) (p base row bucket : ℕ) (mine : Flight) (phase : Phase) →
    IsRun setup (events ++ later) → InUpdate setup events p mine phase → has_announced phase ≡ true →
    IsNewFor setup (words_in setup events) (words_in setup (events ++ later)) (key_in mine.call) base bucket →
    Among (directory_rows setup.shape (words_in setup (events ++ later))) row →
    (directory_row setup.shape (words_in setup (events ++ later)) row).base ≡ Some base →
    NamesNot setup.shape (words_in setup (events ++ later)) row bucket →
    IsInFirstRow setup (words_in setup (events ++ later)) p mine row

-- and a seat in a directory try whose root names it has found the op or a later one of the seat
abbrev pub AnnouncedToRootsOfNewBuckets : Type 0
AnnouncedToRootsOfNewBuckets =
    (setup : Setup) (events later : List Event) (p q bucket : ℕ) (mine theirs : Flight) (phase other : Phase)
    (another : Attempt) →
    IsRun setup (events ++ later) → InUpdate setup events p mine phase → has_announced phase ≡ true →
    InPhase setup (events ++ later) q theirs other → directory_attempt other ≡ Some another →
    IsNewFor setup (words_in setup events) (words_in setup (events ++ later)) (key_in mine.call) another.row bucket →
    IsPast another p → mine.number ≤ number_found another p
