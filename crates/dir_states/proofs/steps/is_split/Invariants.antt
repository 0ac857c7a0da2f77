use Rattle.std.proofs.Common.{◌≡◌, drop, map}
use Rattle.std.specs.List.{list_any}
use Rattle.table_model.specs.DirectoryChange.{comes_from}
use Rattle.dir_states.specs.Views.{as_leaf}
use Rattle.dir_states.proofs.steps.is_split.Given as goal

abbrev pub invariant-loop-leaf : goal.invariant-loop-leaf
invariant-loop-leaf l =
    list_any (comes_from l.bucket) (map as_leaf (drop l.leaf-index l.leaves)) ≡ list_any (comes_from l.bucket)
    (map as_leaf l.leaves)
