use Rattle.std.proofs.Common.{◌-◌, ◌<◌, arith}
use Rattle.plain_map.specs.declared.full.FullKind.TheVariants.{BucketRows}
use Rattle.word_rows.specs.Shape.{count_of}
use Rattle.table_model.specs.Reading.{bucket_row, bucket_line}
use Rattle.word_rows.specs.LayoutView.{shape_of}
use Rattle.closed_words.proofs.LineLemmas.{line-ends, line-goes}
use Rattle.closed_words.proofs.published.bucket_line.Goals as goal

pub returns-in_default : goal.returns-in_default
returns-in_default g c =
    let setup = shape_of c.args.starts.now.layout in
    line-ends (λ r. (bucket_row setup (g.W.Words.words c.args.words.now) r).base)
    (count_of setup BucketRows - c.loop.counter) c.loop.next c.loop.line.items _ c.in_default.is c.loop.invariant

pub loop-preserved : goal.loop-preserved
loop-preserved g c =
    let setup = shape_of c.args.starts.now.layout in
    let inside : c.loop.counter < count_of setup BucketRows = omega arith in
    line-goes (λ r. (bucket_row setup (g.W.Words.words c.args.words.now) r).base)
    (count_of setup BucketRows) c.loop.counter c.in-Some.row c.loop.next _
    c.loop.line.items (bucket_line setup (g.W.Words.words c.args.words.now) c.args.row) c.push.new.self.items inside
    c.in-Some.is c.row_base-next.ensures c.in_ok-push.ensures.items c.loop.invariant
