use Rattle.std.proofs.Common.{◌≡◌, drop, map}
use Rattle.table_model.specs.Leaves.{must_split}
use Rattle.dir_states.specs.Views.{as_leaf}
use Rattle.dir_states.proofs.leaves.must_split.Given as goal

abbrev pub invariant-loop-leaf : goal.invariant-loop-leaf
invariant-loop-leaf l =
    must_split l.rules l.call (map as_leaf (drop l.leaf-index l.leaves)) ≡ must_split l.rules l.call
    (map as_leaf l.leaves)
