-- The rows so far.
use Rattle.std.proofs.Common.{◌≡◌, vec_capacity}
use Rattle.std.specs.List.{range_with_len}
use Rattle.exchange_calls.proofs.own_rows.OwnRows.new.Given as goal

abbrev pub invariant-loop-i : goal.invariant-loop-i
invariant-loop-i l = record {
  room : vec_capacity l.free ≡ l.rows;
  rows : l.free.items ≡ range_with_len l.fn.first l.i;
}
