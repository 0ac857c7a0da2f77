use Rattle.std.proofs.Common.{ℕ, List, ◌++◌, decimal, sym, ap, ◌∙◌, append-nil, arith}
use Rattle.batch_history.specs.Batches.{with_counts}
use Rattle.report_text.specs.Lines.{counts_word, text_in}
use Rattle.report_text.proofs.CountLemmas.{counts_first, text_more}
use Rattle.report_text.proofs.calls.put_counts.Goals as goal

pub loop-seat-init : goal.loop-seat-init
loop-seat-init c = record {
  written =
      c.put_digits.ensures.appended
      ∙ ap (λ (n : List ℕ). text_in c.args.out.now ++ n)
      (ap decimal c.count_on.ensures.count
      ∙ sym (counts_first (with_counts c.args.before.now c.args.seen.now.counts) c.count_on.ensures.known));
  space = omega arith;
}

pub loop-seat-preserved : goal.loop-seat-preserved
loop-seat-preserved c = record {
  written =
      text_more (text_in c.args.out.now) _ _ _ (with_counts c.args.before.now c.args.seen.now.counts) c.loop-seat.seat
      (omega arith) c.count_on-in-loop-seat.ensures.known
      c.loop-seat.invariant.written c.put_text.ensures.appended
      (c.put_digits-in-loop-seat.ensures.appended
      ∙ ap (λ (n : ℕ). text_in c.put_text.new.out ++ decimal n) c.count_on-in-loop-seat.ensures.count);
  space = omega arith;
}

pub returns-else-seats-ne0-clause-appended : goal.returns-else-seats-ne0-clause-appended
unfolding counts_word
returns-else-seats-ne0-clause-appended c = rw c.if-seats-ne0.false (sym (append-nil (text_in c.args.out.now)))
