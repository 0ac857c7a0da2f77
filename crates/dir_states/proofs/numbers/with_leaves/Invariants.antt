use Rattle.std.proofs.Common.{◌≡◌, ℕ, ◌+◌, ◌-◌, ◌<◌, ◌≤◌, ◌^◌, ◌/◌, length, drop, get_or, map, vec_capacity}
use Rattle.std.specs.Prelude.{slice_index}
use Rattle.table_model.specs.DirectoryChange.{number_at}
use Rattle.dir_states.specs.Views.{as_leaf}
use Rattle.dir_states.proofs.numbers.with_leaves.Given as goal

abbrev pub invariant-loop-left : goal.invariant-loop-left
invariant-loop-left l = record {
  depth : l.state.depth ≡ l.depth;
  len : length l.state.entries.items ≡ 2 ^ l.depth;
  named : (place none : ℕ) → place < 2 ^ l.depth → get_or l.state.entries.items place none
      ≡ number_at l.depth place (l.fresh + l.left)
      (slice_index l.directory.entries.items (place / 2 ^ (l.depth - l.directory.depth)))
      (map as_leaf (drop l.left l.leaves));
  within : l.left ≤ length l.leaves;
  room : vec_capacity l.state.entries ≡ vec_capacity l.fn.state.entries;
}

abbrev pub decreases-loop-left : goal.decreases-loop-left
decreases-loop-left l = l.left
