use Rattle.std.proofs.Common.{◌≡◌, take, vec_len, vec_capacity}
use Rattle.std.specs.Mem.Slots.{slots_items}
use Rattle.sim_totals.proofs.table.read_all.Given as goal

abbrev pub invariant-loop-i : goal.invariant-loop-i
invariant-loop-i l = record {
  items : l.out.items ≡ take l.i (slots_items l.closed.words);
  len : vec_len l.out ≡ l.i;
  room : vec_capacity l.out ≡ l.fn.count;
}
