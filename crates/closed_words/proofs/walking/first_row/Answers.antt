-- Row by row, as the line is defined.
use Rattle.std.proofs.Common.{ℕ, ◌<◌, List, sym, ap, ◌∙◌, arith}
use Rattle.std.specs.Prelude.{not}
use Rattle.plain_map.specs.declared.full.FullKind.TheVariants.{BucketRows}
use Rattle.word_rows.specs.Shape.{Shape, count_of}
use Rattle.word_rows.specs.LayoutView.{shape_of}
use Rattle.table_model.specs.Reading.{bucket_row, is_exchanged}
use Rattle.closed_words.proofs.LineLemmas.{find-here, find-later}
use Rattle.closed_words.proofs.walking.first_row.Goals as goal

pub returns-then-not-is_exchanged : goal.returns-then-not-is_exchanged
returns-then-not-is_exchanged g c =
    let shape : Shape = shape_of c.args.starts.now.layout in
    let words : List ℕ = g.W.Words.words c.args.words.now in
    let inside : c.loop.counter < count_of shape BucketRows = omega arith in
    sym (find-here (λ row. not (is_exchanged shape words row)) (λ r. (bucket_row shape words r).base)
    (count_of shape BucketRows) c.loop.counter c.in-Some.row c.loop.next inside c.in-Some.is
    (ap not (sym c.is_exchanged.ensures ∙ c.if-not-is_exchanged.true)))
    ∙ c.loop.invariant

pub loop-preserved : goal.loop-preserved
loop-preserved g c =
    let shape : Shape = shape_of c.args.starts.now.layout in
    let words : List ℕ = g.W.Words.words c.args.words.now in
    let inside : c.loop.counter < count_of shape BucketRows = omega arith in
    find-later (λ row. not (is_exchanged shape words row)) (λ r. (bucket_row shape words r).base)
    (count_of shape BucketRows) c.loop.counter c.in-Some.row c.loop.next _ inside c.in-Some.is
    c.row_base-next.ensures (ap not (sym c.is_exchanged.ensures ∙ c.if-not-is_exchanged.false))
    ∙ c.loop.invariant
