use Rattle.std.proofs.Common.{vec_len}
use Rattle.dir_states.specs.Openings.{AreOpen}
use Rattle.dir_states.proofs.cuts.spare_all.Given as goal

abbrev pub invariant-loop-leaf : goal.invariant-loop-leaf
invariant-loop-leaf l = AreOpen l.table.seats l.table.items l.table.most l.leaves

abbrev pub decreases-loop-leaf : goal.decreases-loop-leaf
decreases-loop-leaf l = vec_len l.leaves.made
