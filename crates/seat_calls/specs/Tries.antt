-- A try to change a bucket or the directory.
use Rattle.std.specs.Prelude.{◌≡◌, ℕ, [], List, Option, Some}
use Rattle.bucket_states.specs.declared.ops.Op.{Op}
use Rattle.bucket_states.specs.States.{BucketState}
use Rattle.table_model.specs.declared.rounds.Round.{Round}
use Rattle.table_model.specs.Directories.{DirectoryState}
use Rattle.table_model.specs.Phases.{BucketTry, DirectoryTry, Phase, TryAnnouncement, TryOp, TryStore, DirAnnouncement, DirOp}
use Rattle.table_model.specs.Setup.{Setup}
use Rattle.table_model.specs.Goes.{after_dir_found, after_found, after_loaded, bucket_in_words}
use Rattle.table_model.specs.Stores.{bucket_words, made_bucket}
use Rattle.seat_calls.specs.Going.{Going}
use Rattle.dir_states.specs.Views.{as_directory}
use Rattle.seat_calls.specs.declared.asking.Attempt.{Attempt}
use Rattle.seat_calls.specs.declared.asking.DirectoryAttempt.{DirectoryAttempt}

-- a bucket try, by what its row says
abbrev pub tried : (turn first row : ℕ) → BucketState → BucketTry
tried turn first row state = record { turn = turn; first = first; row = row; state = state }

-- by the words of its row
abbrev pub trying : Setup → Attempt → BucketTry
trying setup attempt = tried attempt.turn attempt.first attempt.row (bucket_in_words setup attempt.words.now)

-- a directory try, by what its row says
abbrev pub directory_tried : (turn first root : ℕ) → DirectoryState → DirectoryTry
directory_tried turn first root directory = record { turn = turn; first = first; root = root; directory = directory }

-- by the directory that was loaded
abbrev pub directory_trying : DirectoryAttempt → DirectoryTry
directory_trying attempt = directory_tried attempt.turn attempt.first attempt.root (as_directory attempt.directory.now)

-- a try of either kind
pub data AnyTry : Type 0 where
  OfBucket : (attempt : BucketTry) → AnyTry
  OfDirectory : (attempt : DirectoryTry) → AnyTry

-- the next word is the announcement of the next seat
abbrev pub announcing : Round → AnyTry → List (Option Op) → Phase
announcing round (OfBucket attempt) found = TryAnnouncement round attempt found
announcing round (OfDirectory attempt) found = DirAnnouncement round attempt found

-- so many words of its op row are loaded
abbrev pub reading : Round → AnyTry → List (Option Op) → (op : ℕ) → List ℕ → Phase
reading round (OfBucket attempt) found op words = TryOp round attempt found op words
reading round (OfDirectory attempt) found op words = DirOp round attempt found op words

-- the ops of so many seats are found
abbrev pub after_ops : Setup → Round → AnyTry → List (Option Op) → Phase
after_ops setup round (OfBucket attempt) found = after_found setup round attempt found
after_ops setup round (OfDirectory attempt) found = after_dir_found setup round attempt found

-- those of all seats are
abbrev pub after_all_ops : Setup → Round → AnyTry → List (Option Op) → Phase
after_all_ops setup round (OfBucket attempt) found = TryStore round attempt found 0
after_all_ops setup round (OfDirectory attempt) found = after_loaded setup round attempt found []

-- the row that is stored next has these words
pub record IsStoring (g : Going) (words : List ℕ) : Type 0 where
  pub round : Round
  pub attempt : BucketTry
  pub found : List (Option Op)
  pub phase : g.phase ≡ TryStore round attempt found 0
  pub words_are : words ≡ bucket_words g.setup (Some attempt.row) (made_bucket g.setup attempt found)
