use Rattle.std.proofs.Common.{◌≡◌, ◌+◌, ◌++◌, replicate, vec_capacity, vec_len}
use Rattle.sim_totals.proofs.table.push_zeros.Given as goal

abbrev pub invariant-loop : goal.invariant-loop
invariant-loop l = record {
  items : l.words.items ≡ l.initial.words.items ++ replicate l.counter 0;
  len : vec_len l.words ≡ vec_len l.initial.words + l.counter;
  room : vec_capacity l.words ≡ vec_capacity l.initial.words;
}
