use Rattle.std.proofs.Common.{◌≡◌, drop, map}
use Rattle.table_model.specs.DirectoryChange.{depth_after}
use Rattle.dir_states.specs.Views.{as_directory, as_leaf}
use Rattle.dir_states.proofs.numbers.depth_after.Given as goal

abbrev pub invariant-loop-leaf : goal.invariant-loop-leaf
invariant-loop-leaf l =
    depth_after (record { depth = l.depth; entries = l.directory.entries.items })
    (map as_leaf (drop l.leaf-index l.leaves))
    ≡ depth_after (as_directory l.directory) (map as_leaf l.leaves)
