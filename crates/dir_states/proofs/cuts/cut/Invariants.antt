use Rattle.std.proofs.Common.{◌≡◌, ◌≤◌, ◌*◌, ◌-◌, ◌^◌, List, [], map, vec_len}
use Rattle.plain_map.specs.declared.keys.Pair.{Pair}
use Rattle.dir_states.specs.Cuts.{below_each}
use Rattle.dir_states.specs.Openings.{AreCounted, AreOpen}
use Rattle.dir_states.specs.Views.{as_leaf}
use Rattle.dir_states.proofs.cuts.cut.Given as goal

abbrev pub invariant-loop-prefix : goal.invariant-loop-prefix
invariant-loop-prefix l = record {
  leaves : (first : List Pair) → AreCounted l.table.rules first l.counts →
      map as_leaf l.leaves.made.items ≡ below_each l.table.rules l.table.seats first [] l.start 0 l.prefix;
  open_ : AreOpen l.table.seats l.table.items l.table.most l.leaves;
  few : vec_len l.leaves.made ≤ l.prefix * 2 ^ (l.table.rules.depth - l.start);
}
