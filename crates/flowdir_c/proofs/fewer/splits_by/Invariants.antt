use Rattle.std.proofs.Common.{◌≡◌, ◌+◌, ◌-◌, ◌*◌, ◌≤◌}
use Rattle.bound_laws.proofs.Levels.{sum_below}
use Rattle.leaf_laws.specs.Leaves.{crowds_of}
use Rattle.flowdir_c.proofs.fewer.splits_by.Given as goal

abbrev pub invariant-loop-depth : goal.invariant-loop-depth
invariant-loop-depth l = record {
  sum : l.splits ≡ sum_below (λ i. crowds_of l.settings l.keys (l.settings.start + i)) (l.depth - l.settings.start);
  few : l.splits ≤ (l.depth - l.settings.start) * 4096;
  above : l.settings.start ≤ l.depth;
}
