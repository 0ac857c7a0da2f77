-- A change whose leaves are not fit is none.
use Rattle.std.proofs.Common.{◌≡◌, ℕ, List, Option, None, subst}
use Rattle.bucket_states.specs.declared.ops.Op.{Op}
use Rattle.table_model.specs.DirectoryChange.{LoadedBucket, next_bucket}
use Rattle.table_model.specs.Fits.{IsChange, Makes}
use Rattle.table_model.specs.Goes.{after_loaded, load_or_store}
use Rattle.table_model.specs.declared.rounds.Round.{Round}
use Rattle.table_model.specs.Phases.{DirectoryTry}
use Rattle.table_model.specs.Setup.{Setup, rules_of, settings_of, seats_of}
use Rattle.table_model.specs.Stores.{base_of_leaf, made_leaves}
use Rattle.dir_states.specs.Fit.{AreFit}
use Rattle.dir_states.proofs.FitLemmas.{AreFit-spelled}

-- where the leaves are not fit, they cannot be those of a change
pub unfit_change : (setup : Setup) (attempt : DirectoryTry) (found : List (Option Op)) (loaded : List LoadedBucket) →
    ¬ AreFit (settings_of setup).depth (seats_of setup) (made_leaves setup attempt found loaded) →
    ¬ IsChange setup attempt found loaded
unfit_change setup attempt found loaded unfit change =
    unfit (AreFit-spelled (settings_of setup) (base_of_leaf loaded) (made_leaves setup attempt found loaded)
    change.leaves)

-- where no bucket is left, the change is made next
pub change_next : (setup : Setup) (round : Round) (attempt : DirectoryTry) (found : List (Option Op))
    (loaded : List LoadedBucket) → next_bucket (rules_of setup) attempt.directory loaded found ≡ None →
    Makes setup (after_loaded setup round attempt found loaded) → IsChange setup attempt found loaded
change_next setup round attempt found loaded none makes =
    subst (λ (o : Option ℕ). Makes setup (load_or_store round attempt found loaded o)) none makes
