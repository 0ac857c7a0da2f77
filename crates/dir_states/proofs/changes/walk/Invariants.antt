use Rattle.std.proofs.Common.{◌≡◌, ◌+◌, ◌*◌, ◌≤◌, [], drop, map, vec_len}
use Rattle.table_model.specs.DirectoryChange.{leaves_after}
use Rattle.dir_states.specs.Rooms.{AreKept}
use Rattle.dir_states.specs.Views.{as_directory, as_leaf, as_loaded}
use Rattle.dir_states.proofs.changes.walk.Given as goal

abbrev pub invariant-loop-seat : goal.invariant-loop-seat
invariant-loop-seat l = record {
  rest : leaves_after l.table.rules (as_directory l.directory) (map as_loaded l.loaded) l.seat (drop l.seat l.ops)
      (map as_leaf l.leaves.made.items)
      ≡ leaves_after l.table.rules (as_directory l.directory) (map as_loaded l.loaded) 0 l.ops [];
  kept : AreKept l.table l.leaves;
  few : vec_len l.leaves.made ≤ l.seat * (l.table.rules.depth + 2);
}
