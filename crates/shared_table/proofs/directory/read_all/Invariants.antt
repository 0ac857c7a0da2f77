use Rattle.std.proofs.Common.{◌≡◌, take, vec_len, vec_capacity}
use Rattle.shared_table.proofs.directory.read_all.Given as goal

abbrev pub invariant-loop-i : goal.invariant-loop-i
invariant-loop-i l = record {
  items : l.out.items ≡ take l.i l.closed.words;
  len : vec_len l.out ≡ l.i;
  room : vec_capacity l.out ≡ vec_capacity l.initial.out;
}
