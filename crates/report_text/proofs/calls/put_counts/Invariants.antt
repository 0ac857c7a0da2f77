use Rattle.std.proofs.Common.{◌≡◌, ◌+◌, ◌*◌, ◌≤◌, ◌++◌}
use Rattle.batch_history.specs.Batches.{with_counts}
use Rattle.report_text.specs.Lines.{counts_word, room, text_in}
use Rattle.report_text.proofs.calls.put_counts.Given as goal

abbrev pub invariant-loop-seat : goal.invariant-loop-seat
invariant-loop-seat l = record {
  written : text_in l.out ≡ text_in l.fn.out ++ counts_word l.seat (with_counts l.before l.seen.counts);
  space : room l.fn.out ≤ room l.out + 11 * l.seat;
}
