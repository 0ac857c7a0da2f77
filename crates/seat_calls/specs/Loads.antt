-- The buckets of the announced ops, loaded one after the other.
use Rattle.std.specs.Prelude.{◌≡◌, ℕ, ◌^◌, true, List, All, Option, vec_len}
use Rattle.std.specs.List.{list_any}
use Rattle.bucket_states.specs.declared.ops.Op.{Op}
use Rattle.table_model.specs.Setup.{rules_of}
use Rattle.table_model.specs.DirectoryChange.{LoadedBucket, buckets_of, is_bucket}
use Rattle.table_model.specs.Fits.{Makes}
use Rattle.table_model.specs.Goes.{after_loaded, more}
use Rattle.table_model.specs.declared.rounds.Round.{Round}
use Rattle.table_model.specs.Phases.{DirectoryTry}
use Rattle.dir_states.specs.declared.directory.DirState.{DirState}
use Rattle.seat_calls.specs.Going.{Going, later}

-- there is an entry for each place
abbrev pub IsWhole : DirState → Type 0
IsWhole directory = vec_len directory.entries ≡ 2 ^ directory.depth

-- one bucket more is loaded, which has this number
pub record AddsBucket (bucket : ℕ) (was now : List LoadedBucket) : Type 0 where
  pub one : LoadedBucket
  pub number : one.bucket ≡ bucket
  pub now_are : now ≡ more was one

-- the bucket is among those that were loaded
abbrev pub IsLoaded : List LoadedBucket → ℕ → Type 0
IsLoaded loaded bucket = list_any (is_bucket bucket) loaded ≡ true

-- so many steps later these buckets are loaded, and those of the first ops are among them
pub record HasLoaded (first now : Going) (round : Round) (attempt : DirectoryTry) (ops front : List (Option Op))
    (loaded : List LoadedBucket) (spent : ℕ) : Type 0 where
  pub goes : now ≡ later first spent (after_loaded first.setup round attempt ops loaded)
  pub makes : Makes first.setup (after_loaded first.setup round attempt ops loaded)
  pub among : All (IsLoaded loaded) (buckets_of (rules_of first.setup) attempt.directory front)
