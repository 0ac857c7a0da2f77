use Rattle.std.proofs.Common.{◌≡◌, ◌-◌, ◌++◌}
use Rattle.plain_map.specs.declared.full.FullKind.TheVariants.{BucketRows}
use Rattle.word_rows.specs.Shape.{count_of}
use Rattle.table_model.specs.Reading.{line, bucket_line, bucket_row}
use Rattle.word_rows.specs.LayoutView.{shape_of}
use Rattle.closed_words.proofs.published.bucket_line.Given as goal

abbrev pub invariant-loop : goal.invariant-loop
invariant-loop g l =
    l.line.items
    ++ line (λ r. (bucket_row (shape_of l.starts.layout) (g.W.Words.words l.words) r).base)
    (count_of (shape_of l.starts.layout) BucketRows - l.counter) l.next
    ≡ bucket_line (shape_of l.starts.layout) (g.W.Words.words l.words) l.fn.row
