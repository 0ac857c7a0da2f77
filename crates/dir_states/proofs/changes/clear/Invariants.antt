use Rattle.std.proofs.Common.{vec_len}
use Rattle.dir_states.specs.Rooms.{HasRooms}
use Rattle.dir_states.proofs.changes.clear.Given as goal

abbrev pub invariant-loop-leaf : goal.invariant-loop-leaf
invariant-loop-leaf l = HasRooms l.table l.leaves

abbrev pub decreases-loop-leaf : goal.decreases-loop-leaf
decreases-loop-leaf l = vec_len l.leaves.made
