-- Row by row, as the list and the line are defined.
use Rattle.std.proofs.Common.{◌≡◌, ℕ, ◌-◌, ◌<◌, List, ◌++◌, sym, ap, ◌∙◌, arith, append-nil}
use Rattle.std.specs.Prelude.{not}
use Rattle.plain_map.specs.declared.full.FullKind.TheVariants.{BucketRows}
use Rattle.word_rows.specs.Shape.{Shape, count_of}
use Rattle.word_rows.specs.LayoutView.{shape_of}
use Rattle.table_model.specs.Reading.{bucket_row, is_exchanged, line}
use Rattle.closed_words.proofs.LineLemmas.{find-none, find-end, find-here, find-later}
use Rattle.history_order.specs.Filling.{while_true}
use Rattle.history_order.proofs.Loops.{exchanged_ends, exchanged_stops, exchanged_goes}
use Rattle.history_order.proofs.versions.write_bucket.Goals as goal

pub returns-in_default-clause-first : goal.returns-in_default-clause-first
returns-in_default-clause-first g c =
    let shape : Shape = shape_of c.args.starts.now.layout in
    let words : List ℕ = g.W.Words.words c.args.words.now in
    sym (find-none (λ row. not (is_exchanged shape words row)) (λ r. (bucket_row shape words r).base)
    (count_of shape BucketRows - c.loop.counter) c.loop.next c.in_default.is) ∙ c.loop.invariant.first

pub returns-in_default-clause-rows : goal.returns-in_default-clause-rows
returns-in_default-clause-rows g c =
    let shape : Shape = shape_of c.args.starts.now.layout in
    let words : List ℕ = g.W.Words.words c.args.words.now in
    exchanged_ends (is_exchanged shape words) (λ r. (bucket_row shape words r).base)
    (count_of shape BucketRows - c.loop.counter) c.loop.next c.loop.columns.rows.items _ c.in_default.is
    c.loop.invariant.rows

pub returns-then-not-is_exchanged-clause-first : goal.returns-then-not-is_exchanged-clause-first
returns-then-not-is_exchanged-clause-first g c =
    let shape : Shape = shape_of c.args.starts.now.layout in
    let words : List ℕ = g.W.Words.words c.args.words.now in
    let inside : c.loop.counter < count_of shape BucketRows = omega arith in
    sym (find-here (λ row. not (is_exchanged shape words row)) (λ r. (bucket_row shape words r).base)
    (count_of shape BucketRows) c.loop.counter c.in-Some.row c.loop.next inside c.in-Some.is
    (ap not (sym c.is_exchanged.ensures ∙ c.if-not-is_exchanged.true))) ∙ c.loop.invariant.first

pub returns-then-not-is_exchanged-clause-rows : goal.returns-then-not-is_exchanged-clause-rows
returns-then-not-is_exchanged-clause-rows g c =
    let shape : Shape = shape_of c.args.starts.now.layout in
    let words : List ℕ = g.W.Words.words c.args.words.now in
    let inside : c.loop.counter < count_of shape BucketRows = omega arith in
    exchanged_stops (is_exchanged shape words) (λ r. (bucket_row shape words r).base)
    (count_of shape BucketRows) c.loop.counter c.in-Some.row c.loop.next c.loop.columns.rows.items _ inside c.in-Some.is
    (sym c.is_exchanged.ensures ∙ c.if-not-is_exchanged.true) c.loop.invariant.rows

pub loop-preserved : goal.loop-preserved
loop-preserved g c =
    let shape : Shape = shape_of c.args.starts.now.layout in
    let words : List ℕ = g.W.Words.words c.args.words.now in
    let inside : c.loop.counter < count_of shape BucketRows = omega arith in
    record {
      first = find-later (λ row. not (is_exchanged shape words row)) (λ r. (bucket_row shape words r).base)
          (count_of shape BucketRows) c.loop.counter c.in-Some.row c.loop.next _ inside c.in-Some.is
          c.row_base-base.ensures (ap not (sym c.is_exchanged.ensures ∙ c.if-not-is_exchanged.false))
          ∙ c.loop.invariant.first;
      rows = exchanged_goes (is_exchanged shape words) (λ r. (bucket_row shape words r).base)
          (count_of shape BucketRows) c.loop.counter c.in-Some.row c.loop.next _ c.loop.columns.rows.items _
          c.write.new.self.rows.items inside c.in-Some.is
          (sym c.is_exchanged.ensures ∙ c.if-not-is_exchanged.false) c.row_base-base.ensures
          c.in_ok-write.ensures.rows c.loop.invariant.rows;
      columns = λ logs w. c.in_ok-write.ensures.columns logs (c.loop.invariant.columns logs w);
    }

pub returns-clause-first : goal.returns-clause-first
returns-clause-first g c =
    let shape : Shape = shape_of c.args.starts.now.layout in
    let words : List ℕ = g.W.Words.words c.args.words.now in
    sym (find-end (λ row. not (is_exchanged shape words row)) (λ r. (bucket_row shape words r).base)
    (count_of shape BucketRows) c.loop.counter c.loop.next (omega arith)) ∙ c.loop.invariant.first

pub returns-clause-rows : goal.returns-clause-rows
returns-clause-rows g c =
    let shape : Shape = shape_of c.args.starts.now.layout in
    let words : List ℕ = g.W.Words.words c.args.words.now in
    let none : count_of shape BucketRows - c.loop.counter ≡ 0 = omega arith in
    sym (append-nil c.loop.columns.rows.items)
    ∙ ap (λ n. c.loop.columns.rows.items ++ while_true (is_exchanged shape words)
    (line (λ r. (bucket_row shape words r).base) n c.loop.next)) (sym none) ∙ c.loop.invariant.rows
