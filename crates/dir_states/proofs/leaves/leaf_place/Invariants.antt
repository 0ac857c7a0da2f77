use Rattle.std.proofs.Common.{◌≡◌, ℕ, ◌<◌, false, get_or}
use Rattle.bucket_states.specs.States.{state_of}
use Rattle.table_model.specs.Leaves.{is_in}
use Rattle.dir_states.specs.declared.values.NewLeaf.{NewLeaf as Leaf}
use Rattle.dir_states.proofs.leaves.leaf_place.Given as goal

abbrev pub invariant-loop-place : goal.invariant-loop-place
invariant-loop-place l =
    (k : ℕ) (d : Leaf) → k < l.place → is_in l.rules l.key (state_of (get_or l.leaves k d).bucket) ≡ false
