-- What is known of a machine beside its phase.
use Rattle.std.specs.Prelude.{◌≡◌, ℕ, ◌+◌, ◌*◌, ◌^◌, ◌<◌, ◌≤◌, Bool, true, false, List, [], ◌∷◌, Option, Some, length}
use Rattle.std.specs.List.{list_any}
use Rattle.step_counts.specs.declared.TheConstants.{ITEM_WORDS, OP_WORDS}
use Rattle.step_counts.specs.declared.settings.Settings.{Settings}
use Rattle.step_counts.specs.StepCounts.{bucket_row_words}
use Rattle.plain_map.specs.Serving.{IsAskable}
use Rattle.word_rows.specs.OpWords.{words_of_op}
use Rattle.bucket_states.specs.declared.ops.Op.{Op}
use Rattle.bucket_states.specs.States.{BucketState, state_of}
use Rattle.table_model.specs.Asks.{op_row_of}
use Rattle.table_model.specs.Directories.{DirectoryState}
use Rattle.table_model.specs.DirectoryChange.{LoadedBucket, buckets_of, is_bucket, next_bucket}
use Rattle.table_model.specs.Phases.{BucketTry, DirectoryTry}
use Rattle.table_model.specs.Setup.{Setup, rules_of}
use Rattle.table_model.specs.Stores.{bucket_words, directory_puts, made_bucket, made_leaves}
use Rattle.dir_states.specs.Changes.{leaves_of}
use Rattle.dir_states.specs.Views.{as_directory}
use Rattle.seat_machine.specs.declared.machine.Machine.{Machine}
use Rattle.seat_machine.specs.declared.stage.Stage.{Stage}
use Rattle.seat_machine.specs.declared.stage.Stage.TheVariants as S
use Rattle.seat_machine.specs.Room.{HasAllRoom}
use Rattle.seat_machine.specs.Stages.{attempt_of, directory_try_of}
use Rattle.seat_machine.specs.View.{flight_of, loaded_in, setup_of, sizes}

-- the bucket can be one of the table's
pub record IsOfTable (settings : Settings) (bucket : BucketState) : Type 0 where
  pub depth : bucket.depth ≤ settings.depth
  pub prefix : bucket.prefix < 2 ^ bucket.depth
  pub items : length bucket.items ≤ settings.items
  pub applied : length bucket.applied ≡ settings.seats
  pub replies : length bucket.replies ≡ settings.seats

-- the row at hand is not whole yet
abbrev pub RowGoesOn : Machine → Type 0
RowGoesOn m = length m.words.items < bucket_row_words (sizes m)

-- the loaded bucket is the table's, and not all seats are gone through
pub record TryGoesOn (m : Machine) (turn : ℕ) : Type 0 where
  pub base : IsOfTable (sizes m) (state_of m.base)
  pub few : length m.found.items < (sizes m).seats
  pub turn_is : turn ≤ 2

-- the new bucket is made, and spelled in the buffer
pub record TryStands (m : Machine) (attempt : BucketTry) : Type 0 where
  pub made : state_of m.made ≡ made_bucket (setup_of m) attempt m.found.items
  pub spelled : m.out.items
      ≡ bucket_words (setup_of m) (Some attempt.row) (made_bucket (setup_of m) attempt m.found.items)
  pub turn_is : attempt.turn ≤ 2

-- the loaded directory can be the table's, and not all seats are gone through
pub record DirectoryGoesOn (m : Machine) : Type 0 where
  pub depth : m.directory.depth ≤ (sizes m).depth
  pub few : length m.found.items < (sizes m).seats

-- 1 for yes
abbrev pub flag : Bool → ℕ
flag true = 1
flag false = 0

-- how many of these buckets are among those that were loaded
abbrev pub many_loaded : List LoadedBucket → List ℕ → ℕ
many_loaded loaded [] = 0
many_loaded loaded (bucket ∷ buckets) =
    flag (list_any (is_bucket bucket) loaded) + many_loaded loaded buckets

-- no more buckets are loaded than ops have theirs among them
abbrev pub AreFew : Setup → DirectoryState → List (Option Op) → List LoadedBucket → Type 0
AreFew setup directory found loaded =
    length loaded ≤ many_loaded loaded (buckets_of (rules_of setup) directory found)

-- the ops of all seats are found, and some of their buckets are loaded
pub record LoadsOn (m : Machine) : Type 0 where
  pub depth : m.directory.depth ≤ (sizes m).depth
  pub all : length m.found.items ≡ (sizes m).seats
  pub within : m.many ≤ length m.loaded.items
  pub few : AreFew (setup_of m) (as_directory m.directory) m.found.items (loaded_in m)

-- this one is loaded next
abbrev pub LoadsNext : Machine → (bucket : ℕ) → Type 0
LoadsNext m bucket =
    next_bucket (rules_of (setup_of m)) (as_directory m.directory) (loaded_in m) m.found.items ≡ Some bucket

-- the new leaves are made, and all that is stored is in the buffer
pub record ChangeStands (m : Machine) (attempt : DirectoryTry) : Type 0 where
  pub leaves : leaves_of m.change ≡ made_leaves (setup_of m) attempt m.found.items (loaded_in m)
  pub puts : m.puts.items ≡ directory_puts (setup_of m) m.seat m.used attempt m.found.items (loaded_in m)

-- what is known beside the phase, by stage
abbrev pub StageStands : Machine → Stage → Type 0
StageStands m S.SeeDone = length m.seen.items < (sizes m).seats
StageStands m (S.StoreOp stored) = (stored < OP_WORDS) × (m.op ≡ words_of_op (op_row_of (flight_of m)))
StageStands m (S.FindEntry aim root depth) = depth ≤ (sizes m).depth
StageStands m (S.LookItems row count) = (count ≤ (sizes m).items) × (length m.words.items < count * ITEM_WORDS)
StageStands m (S.LastRow row) = RowGoesOn m
StageStands m (S.TryRow round turn first row) = RowGoesOn m × (turn ≤ 3)
StageStands m (S.TryWord round turn first) = turn ≤ 3
StageStands m (S.TryAnnouncement round turn first row) = TryGoesOn m turn
StageStands m (S.TryOp round turn first row op) = TryGoesOn m turn × (length m.words.items < OP_WORDS)
StageStands m (S.TryStore round turn first row stored) =
    TryStands m (attempt_of turn first row (state_of m.base)) × (stored < bucket_row_words (sizes m))
StageStands m (S.TryExchange round turn first row) = TryStands m (attempt_of turn first row (state_of m.base))
StageStands m (S.DirEntries round turn first root depth) =
    (depth ≤ (sizes m).depth) × (m.directory.depth ≡ depth) × (length m.directory.entries.items < 2 ^ depth)
StageStands m (S.DirAnnouncement round turn first root) = DirectoryGoesOn m
StageStands m (S.DirOp round turn first root op) = DirectoryGoesOn m × (length m.words.items < OP_WORDS)
StageStands m (S.DirWord round turn first root bucket) = LoadsOn m × LoadsNext m bucket
StageStands m (S.DirRow round turn first root bucket row) = LoadsOn m × LoadsNext m bucket × RowGoesOn m
StageStands m (S.DirStore round turn first root stored) =
    ChangeStands m (directory_try_of turn first root (as_directory m.directory)) × (stored ≤ length m.puts.items)
StageStands m (S.DirExchange round turn first root) =
    ChangeStands m (directory_try_of turn first root (as_directory m.directory))
StageStands m stage = Unit {0}

-- the call's value can be kept, it has a number, and no more done words are seen than there are seats
pub record CallStands (m : Machine) : Type 0 where
  pub askable : IsAskable m.call
  pub number : 1 ≤ m.number
  pub count : m.number ≡ m.count + 1
  pub few : length m.seen.items ≤ (sizes m).seats

-- at each stage but one there is a call
abbrev pub InCall : Machine → Stage → Type 0
InCall m S.Idle = Unit {0}
InCall m stage = CallStands m

-- what holds of every machine
pub record IsKept (m : Machine) : Type 0 where
  pub room : HasAllRoom m
  pub call : InCall m m.stage
  pub stage : StageStands m m.stage
