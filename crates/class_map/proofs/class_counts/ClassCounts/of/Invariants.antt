use Rattle.std.proofs.Common.{◌≡◌, take}
use Rattle.class_map.specs.ClassCounts.{AreCountsOf}
use Rattle.class_map.proofs.class_counts.ClassCounts.of.Given as goal

abbrev pub invariant-loop-pair : goal.invariant-loop-pair
invariant-loop-pair l = record {
  counts : AreCountsOf (take l.pair-index l.pairs) l.counts;
  rules : l.counts.rules ≡ l.rules;
}
