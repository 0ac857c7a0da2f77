use Rattle.std.proofs.Common.{◌≡◌, ◌≤◌, take, filter, vec_len, vec_capacity}
use Rattle.std.specs.Prelude.{◌==◌}
use Rattle.bucket_states.specs.Items.{prefix_of}
use Rattle.bucket_states.proofs.leaves.select.Given as goal

abbrev pub invariant-loop-pair : goal.invariant-loop-pair
invariant-loop-pair l = record {
  items : l.into.items ≡ filter (λ pair. prefix_of l.rules l.depth pair.key == l.prefix) (take l.pair-index l.items);
  few : vec_len l.into ≤ l.pair-index;
  room : vec_capacity l.into ≡ vec_capacity l.fn.into;
}
