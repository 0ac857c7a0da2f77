use Rattle.std.proofs.Common.{◌≡◌, vec_len, vec_capacity}
use Rattle.std.specs.Prelude.{replicate}
use Rattle.dir_states.proofs.counts.zeros.Given as goal

abbrev pub invariant-loop : goal.invariant-loop
invariant-loop l = record {
  none : l.counts.items ≡ replicate l.counter 0;
  len : vec_len l.counts ≡ l.counter;
  room : vec_capacity l.counts ≡ vec_capacity l.fn.counts;
}
