use Rattle.std.proofs.Common.{◌≡◌, length, map, take, vec_len, vec_capacity}
use Rattle.flowdir_c.specs.Told.{pair_of}
use Rattle.flowdir_c.proofs.opening.copied.Given as goal

abbrev pub invariant-loop-pair : goal.invariant-loop-pair
invariant-loop-pair l = record {
  items : l.pairs.items ≡ map pair_of (take l.pair-index l.first);
  len : vec_len l.pairs ≡ l.pair-index;
  room : vec_capacity l.pairs ≡ length l.first;
}
