use Rattle.std.proofs.Common.{◌≡◌, ℕ, ◌<◌, false, get_or}
use Rattle.dir_states.specs.declared.values.NewLeaf.{NewLeaf as Leaf}
use Rattle.dir_states.specs.Fit.{is_before}
use Rattle.dir_states.proofs.leaves.place_among.Given as goal

abbrev pub invariant-loop-place : goal.invariant-loop-place
invariant-loop-place l = (k : ℕ) (d : Leaf) → k < l.place → is_before l.rules l.leaf (get_or l.leaves k d) ≡ false
