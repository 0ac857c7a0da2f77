use Rattle.std.proofs.Common.{◌≡◌, ◌++◌, length, take}
use Rattle.std.specs.Slice.Iter.{chunks_rest, chunks_size}
use Rattle.report_text.specs.Report.{order_lines}
use Rattle.report_text.proofs.order.order_text.Given as goal

abbrev pub invariant-loop-ids : goal.invariant-loop-ids
invariant-loop-ids l = record {
  start : length l.initial.out.items ≡ l.start;
  front : take l.start l.out.items ≡ l.initial.out.items;
  width : chunks_size l.ids-iterator ≡ 16;
  written : l.out.items ++ order_lines (chunks_rest l.ids-iterator) ≡ l.initial.out.items ++ order_lines l.order;
}
