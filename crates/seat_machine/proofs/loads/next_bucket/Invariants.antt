use Rattle.std.proofs.Common.{◌≡◌, drop, map}
use Rattle.table_model.specs.DirectoryChange.{next_bucket}
use Rattle.dir_states.specs.Views.{as_directory, as_loaded}
use Rattle.seat_machine.proofs.loads.next_bucket.Given as goal

abbrev pub invariant-loop-op : goal.invariant-loop-op
invariant-loop-op l =
    next_bucket l.rules (as_directory l.directory) (map as_loaded l.loaded) (drop l.op-index l.found)
    ≡ next_bucket l.rules (as_directory l.directory) (map as_loaded l.loaded) l.found
