use Rattle.std.proofs.Common.{◌≡◌, ℕ, List, [], ◌++◌, ap, ◌∙◌, sym, length, min}
use Rattle.std.proofs.lemmas.List.{append-nil}
use Rattle.std.specs.Slice.Iter.{chunks_rest}
use Rattle.report_text.specs.Report.{order_lines, order_line}
use Rattle.report_text.proofs.OrderLemmas.{front_more, order_more, order_lines_none}
use Rattle.report_text.proofs.order.order_text.Goals as goal

-- the text after a line is the text before it and the line
line_put : (c : goal.In_default) → c.append.new.out.items ≡ c.loop-ids.out.items ++ order_line c.in-Some.ids.now
line_put c =
    c.in_default.ensures.appended
    ∙ ap (λ (text : List ℕ). c.loop-ids.out.items ++ text)
    (c.put_order.ensures ∙ ap (λ (text : List ℕ). text ++ order_line c.in-Some.ids.now) c.clear.ensures.empty)

-- the line has 16 calls, or all that are left
line_size : (c : goal.In_default) →
    length c.in-Some.ids.now ≡ min 16 (length (chunks_rest c.loop-ids.ids-iterator))
line_size c = rw c.loop-ids.invariant.width at c.in-Some.ensures.steps.1.1

pub loop-ids-preserved : goal.loop-ids-preserved
loop-ids-preserved c = record {
  start = c.loop-ids.invariant.start;
  front = front_more _ _ _ _ _ c.loop-ids.invariant.start c.loop-ids.invariant.front (line_put c);
  width = c.in-Some.ensures.steps.0 ∙ c.loop-ids.invariant.width;
  written =
      order_more _ _ _ _ _ _ _ c.in-Some.ensures.steps.1.0 (line_size c) c.in-Some.ensures.steps.1.2
      c.loop-ids.invariant.written (line_put c);
}

pub returns-clause-appended : goal.returns-clause-appended
returns-clause-appended c =
    let none : order_lines (chunks_rest c.loop-ids.ids-iterator) ≡ [] =
    order_lines_none (chunks_rest c.loop-ids.ids-iterator) c.in-None.ensures.steps.1.0 in
    sym (ap (λ (text : List ℕ). c.loop-ids.out.items ++ text) none ∙ append-nil c.loop-ids.out.items)
    ∙ c.loop-ids.invariant.written
