use Rattle.std.proofs.Common.{◌-◌, ◌<◌, arith}
use Rattle.plain_map.specs.declared.full.FullKind.TheVariants.{DirRows}
use Rattle.word_rows.specs.Shape.{count_of}
use Rattle.table_model.specs.Reading.{directory_row, directory_line}
use Rattle.word_rows.specs.LayoutView.{shape_of}
use Rattle.closed_words.proofs.LineLemmas.{line-ends, line-goes}
use Rattle.closed_words.proofs.published.directory_line.Goals as goal

pub returns-in_default : goal.returns-in_default
returns-in_default g c =
    let setup = shape_of c.args.starts.now.layout in
    line-ends (λ r. (directory_row setup (g.W.Words.words c.args.words.now) r).base)
    (count_of setup DirRows - c.loop.counter) c.loop.next c.loop.line.items _ c.in_default.is c.loop.invariant

pub loop-preserved : goal.loop-preserved
loop-preserved g c =
    let setup = shape_of c.args.starts.now.layout in
    let inside : c.loop.counter < count_of setup DirRows = omega arith in
    line-goes (λ r. (directory_row setup (g.W.Words.words c.args.words.now) r).base)
    (count_of setup DirRows) c.loop.counter c.in-Some.row c.loop.next _
    c.loop.line.items (directory_line setup (g.W.Words.words c.args.words.now) c.args.row) c.push.new.self.items
    inside c.in-Some.is c.directory_base-next.ensures c.in_ok-push.ensures.items c.loop.invariant
