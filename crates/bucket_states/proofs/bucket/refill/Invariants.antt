use Rattle.std.proofs.Common.{◌≡◌, take, vec_capacity}
use Rattle.bucket_states.proofs.bucket.refill.Given as goal

abbrev pub invariant-loop-item : goal.invariant-loop-item
invariant-loop-item g l = record {
  items : l.into.items ≡ take l.item-index l.items;
  room : vec_capacity l.into ≡ vec_capacity l.fn.into;
}
