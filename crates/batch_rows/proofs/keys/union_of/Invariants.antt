use Rattle.std.proofs.Common.{◌++◌, ◌-◌, ◌≤◌, drop, length, take}
use Rattle.batch_rows.specs.Counts.{AreInOrder, HaveSameKeys}
use Rattle.batch_rows.proofs.keys.union_of.Given as goal

abbrev pub invariant-loop-other : goal.invariant-loop-other
invariant-loop-other l = record {
  within : l.place ≤ length l.keys;
  same : HaveSameKeys (l.all.items ++ drop l.place l.keys) (l.keys ++ take l.other-index l.others);
  in_order : AreInOrder l.keys → AreInOrder l.others →
      AreInOrder (l.all.items ++ drop l.place l.keys) × AreInOrder (l.all.items ++ drop l.other-index l.others);
}

abbrev pub invariant-loop-place : goal.invariant-loop-place
invariant-loop-place l = record {
  within : l.place ≤ length l.keys;
  same : HaveSameKeys (l.all.items ++ drop l.place l.keys) (l.keys ++ take l.other-index l.others);
  in_order : AreInOrder l.keys → AreInOrder l.others →
      AreInOrder (l.all.items ++ drop l.place l.keys) × AreInOrder (l.all.items ++ drop l.other-index l.others);
}

abbrev pub decreases-loop-place : goal.decreases-loop-place
decreases-loop-place l = length l.keys - l.place
