-- What of a seat's phase the facts about every run speak of: the rounds of an update, the tries of a seat that may
-- carry out the ops of others, and the rows that the phase knows.
use Rattle.std.specs.Prelude.{ℕ, Bool, true, false, List, [], ◌∷◌, map, Option, Some, None, option_to_list}
use Rattle.std.specs.Option.{option_map}
use Rattle.bucket_states.specs.declared.ops.Op.{Op}
use Rattle.table_model.specs.DirectoryChange.{LoadedBucket}
use Rattle.table_model.specs.Phases.{Aim, ForLookup, ForFirstRound, ForSecondRound, ForLastLook, Round, BucketTry, DirectoryTry, Phase, SeeDone, StoreOp, Announce, FindRoot, FindDepth, FindEntry, LookWord, LookCount, LookItems, TryWord, TryRow, TryAnnouncement, TryOp, TryStore, TryExchange, DirRoot, DirDepth, DirEntries, DirAnnouncement, DirOp, DirWord, DirRow, DirStore, DirExchange, LastWord, LastRow, StoreDone}

-- the directory row by which the update first found a bucket, from then on up to the last look
abbrev pub first_root_of_round : Aim → Option ℕ
first_root_of_round ForLookup = None
first_root_of_round ForFirstRound = None
first_root_of_round (ForSecondRound first) = Some first
first_root_of_round ForLastLook = None

-- the round that an update is in, from its bucket tries on
abbrev pub round_of : Phase → Option Round
round_of (TryWord round turn first) = Some round
round_of (TryRow round turn first row words) = Some round
round_of (TryAnnouncement round attempt found) = Some round
round_of (TryOp round attempt found op words) = Some round
round_of (TryStore round attempt found stored) = Some round
round_of (TryExchange round attempt found) = Some round
round_of (DirRoot round turn first) = Some round
round_of (DirDepth round turn first root) = Some round
round_of (DirEntries round turn first root depth words) = Some round
round_of (DirAnnouncement round attempt found) = Some round
round_of (DirOp round attempt found op words) = Some round
round_of (DirWord round attempt found loaded bucket) = Some round
round_of (DirRow round attempt found loaded bucket row words) = Some round
round_of (DirStore round attempt found loaded stored) = Some round
round_of (DirExchange round attempt found loaded) = Some round
round_of phase = None

-- the directory row by which the update found its first bucket, where it is known
abbrev pub first_root_in : Phase → Option ℕ
first_root_in (FindRoot aim) = first_root_of_round aim
first_root_in (FindDepth ForFirstRound root) = Some root
first_root_in (FindDepth aim root) = first_root_of_round aim
first_root_in (FindEntry ForFirstRound root depth) = Some root
first_root_in (FindEntry aim root depth) = first_root_of_round aim
first_root_in phase = option_map (λ round. round.first) (round_of phase)

-- the bucket of a round, and a row that the first try of the round loaded
pub record TriedRow : Type 0 where
  pub bucket : ℕ
  pub row : ℕ

-- the row that the round's first bucket try loaded, as long as the round is in its bucket tries
abbrev pub tried_from : Phase → Option TriedRow
tried_from (TryWord round turn first) = option_map (λ row. record { bucket = round.bucket; row = row }) first
tried_from (TryRow round turn first row words) = Some (record { bucket = round.bucket; row = first })
tried_from (TryAnnouncement round attempt found) = Some (record { bucket = round.bucket; row = attempt.first })
tried_from (TryOp round attempt found op words) = Some (record { bucket = round.bucket; row = attempt.first })
tried_from (TryStore round attempt found stored) = Some (record { bucket = round.bucket; row = attempt.first })
tried_from (TryExchange round attempt found) = Some (record { bucket = round.bucket; row = attempt.first })
tried_from phase = None

-- the directory row that the round's first directory try loaded and went on with, and the bucket of the round
abbrev pub directory_tried_from : Phase → Option TriedRow
directory_tried_from (DirRoot round turn first) = option_map (λ row. record { bucket = round.bucket; row = row }) first
directory_tried_from (DirDepth round turn first root) = Some (record { bucket = round.bucket; row = first })
directory_tried_from (DirEntries round turn first root depth words) =
    Some (record { bucket = round.bucket; row = first })
directory_tried_from (DirAnnouncement round attempt found) =
    Some (record { bucket = round.bucket; row = attempt.first })
directory_tried_from (DirOp round attempt found op words) = Some (record { bucket = round.bucket; row = attempt.first })
directory_tried_from (DirWord round attempt found loaded bucket) =
    Some (record { bucket = round.bucket; row = attempt.first })
directory_tried_from (DirRow round attempt found loaded bucket row words) =
    Some (record { bucket = round.bucket; row = attempt.first })
directory_tried_from (DirStore round attempt found loaded stored) =
    Some (record { bucket = round.bucket; row = attempt.first })
directory_tried_from (DirExchange round attempt found loaded) =
    Some (record { bucket = round.bucket; row = attempt.first })
directory_tried_from phase = None

-- a try that has loaded a row, with the ops of the seats that it has gone through
pub record Attempt : Type 0 where
  -- the bucket of the round
  pub bucket : ℕ
  -- the bucket row or the directory row that the try loaded
  pub row : ℕ
  pub found : List (Option Op)
  -- the buckets that a directory try has loaded
  pub loaded : List LoadedBucket

abbrev pub attempt_of : Round → (row : ℕ) → List (Option Op) → List LoadedBucket → Option Attempt
attempt_of round row found loaded = Some (record { bucket = round.bucket; row = row; found = found; loaded = loaded })

-- the bucket try that goes on: it has loaded a row that is open
abbrev pub bucket_attempt : Phase → Option Attempt
bucket_attempt (TryAnnouncement round attempt found) = attempt_of round attempt.row found []
bucket_attempt (TryOp round attempt found op words) = attempt_of round attempt.row found []
bucket_attempt (TryStore round attempt found stored) = attempt_of round attempt.row found []
bucket_attempt (TryExchange round attempt found) = attempt_of round attempt.row found []
bucket_attempt phase = None

-- the directory try that goes on: it has loaded a directory row that names the bucket of the round
abbrev pub directory_attempt : Phase → Option Attempt
directory_attempt (DirAnnouncement round attempt found) = attempt_of round attempt.root found []
directory_attempt (DirOp round attempt found op words) = attempt_of round attempt.root found []
directory_attempt (DirWord round attempt found loaded bucket) = attempt_of round attempt.root found loaded
directory_attempt (DirRow round attempt found loaded bucket row words) = attempt_of round attempt.root found loaded
directory_attempt (DirStore round attempt found loaded stored) = attempt_of round attempt.root found loaded
directory_attempt (DirExchange round attempt found loaded) = attempt_of round attempt.root found loaded
directory_attempt phase = None

-- the update has announced its op
abbrev pub has_announced : Phase → Bool
has_announced SeeDone = false
has_announced (StoreOp stored) = false
has_announced Announce = false
has_announced phase = true

-- a row that was loaded, and the bucket in whose word it stood
pub record HeldRow : Type 0 where
  pub bucket : ℕ
  pub row : ℕ

-- the rows that a bucket try has loaded
abbrev pub rows_of_try : Round → BucketTry → List HeldRow
rows_of_try round attempt =
    record { bucket = round.bucket; row = attempt.first } ∷ record { bucket = round.bucket; row = attempt.row } ∷ []

-- the rows of the buckets that a directory try has loaded
abbrev pub rows_of_loaded : List LoadedBucket → List HeldRow
rows_of_loaded loaded = map (λ l. record { bucket = l.bucket; row = l.row }) loaded

-- the bucket rows of which a phase knows the bucket
abbrev pub rows_held : Phase → List HeldRow
rows_held (TryWord round turn (Some first)) = record { bucket = round.bucket; row = first } ∷ []
rows_held (TryRow round turn first row words) =
    record { bucket = round.bucket; row = first } ∷ record { bucket = round.bucket; row = row } ∷ []
rows_held (TryAnnouncement round attempt found) = rows_of_try round attempt
rows_held (TryOp round attempt found op words) = rows_of_try round attempt
rows_held (TryStore round attempt found stored) = rows_of_try round attempt
rows_held (TryExchange round attempt found) = rows_of_try round attempt
rows_held (DirWord round attempt found loaded bucket) = rows_of_loaded loaded
rows_held (DirRow round attempt found loaded bucket row words) =
    record { bucket = bucket; row = row } ∷ rows_of_loaded loaded
rows_held (DirStore round attempt found loaded stored) = rows_of_loaded loaded
rows_held (DirExchange round attempt found loaded) = rows_of_loaded loaded
rows_held phase = []

-- the bucket rows of which it does not: that of a lookup, of the last look, and of a reply
abbrev pub rows_alone : Phase → List ℕ
rows_alone (LookCount row) = row ∷ []
rows_alone (LookItems row count words) = row ∷ []
rows_alone (LastRow row words) = row ∷ []
rows_alone (StoreDone reply place) = place ∷ []
rows_alone phase = []

-- the directory rows by which a round, and the one before it, found their buckets
abbrev pub directories_of_round : Round → List ℕ
directories_of_round round = round.first ∷ round.root ∷ []

-- and those that its directory try has loaded
abbrev pub directories_of_try : Round → DirectoryTry → List ℕ
directories_of_try round attempt = attempt.first ∷ attempt.root ∷ directories_of_round round

-- the directory rows that a phase knows
abbrev pub directories_held : Phase → List ℕ
directories_held (FindRoot aim) = option_to_list (first_root_of_round aim)
directories_held (FindDepth aim root) = root ∷ option_to_list (first_root_of_round aim)
directories_held (FindEntry aim root depth) = root ∷ option_to_list (first_root_of_round aim)
directories_held (LookWord root bucket) = root ∷ []
directories_held (LastWord root bucket) = root ∷ []
directories_held (DirRoot round turn (Some first)) = first ∷ directories_of_round round
directories_held (DirDepth round turn first root) = first ∷ root ∷ directories_of_round round
directories_held (DirEntries round turn first root depth words) = first ∷ root ∷ directories_of_round round
directories_held (DirAnnouncement round attempt found) = directories_of_try round attempt
directories_held (DirOp round attempt found op words) = directories_of_try round attempt
directories_held (DirWord round attempt found loaded bucket) = directories_of_try round attempt
directories_held (DirRow round attempt found loaded bucket row words) = directories_of_try round attempt
directories_held (DirStore round attempt found loaded stored) = directories_of_try round attempt
directories_held (DirExchange round attempt found loaded) = directories_of_try round attempt
directories_held (TryWord round turn first) = directories_of_round round
directories_held (TryRow round turn first row words) = directories_of_round round
directories_held (TryAnnouncement round attempt found) = directories_of_round round
directories_held (TryOp round attempt found op words) = directories_of_round round
directories_held (TryStore round attempt found stored) = directories_of_round round
directories_held (TryExchange round attempt found) = directories_of_round round
directories_held (DirRoot round turn None) = directories_of_round round
directories_held phase = []
