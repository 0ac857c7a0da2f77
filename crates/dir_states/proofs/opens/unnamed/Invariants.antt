use Rattle.std.proofs.Common.{◌≡◌, vec_len, vec_capacity}
use Rattle.std.specs.Prelude.{replicate}
use Rattle.dir_states.proofs.opens.unnamed.Given as goal

abbrev pub invariant-loop : goal.invariant-loop
invariant-loop l = record {
  depth : l.directory.depth ≡ l.depth;
  none : l.directory.entries.items ≡ replicate l.counter 0;
  len : vec_len l.directory.entries ≡ l.counter;
  room : vec_capacity l.directory.entries ≡ vec_capacity l.fn.directory.entries;
}
