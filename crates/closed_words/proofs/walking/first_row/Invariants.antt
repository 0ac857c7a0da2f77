use Rattle.std.proofs.Common.{◌≡◌, ◌-◌}
use Rattle.std.specs.Prelude.{find, not}
use Rattle.plain_map.specs.declared.full.FullKind.TheVariants.{BucketRows}
use Rattle.word_rows.specs.Shape.{count_of}
use Rattle.word_rows.specs.LayoutView.{shape_of}
use Rattle.table_model.specs.Reading.{line, bucket_row, first_row, is_exchanged}
use Rattle.closed_words.proofs.walking.first_row.Given as goal

abbrev pub invariant-loop : goal.invariant-loop
invariant-loop g l =
    find (λ row. not (is_exchanged (shape_of l.starts.layout) (g.W.Words.words l.words) row))
    (line (λ r. (bucket_row (shape_of l.starts.layout) (g.W.Words.words l.words) r).base)
    (count_of (shape_of l.starts.layout) BucketRows - l.counter) l.next)
    ≡ first_row (shape_of l.starts.layout) (g.W.Words.words l.words) l.fn.bucket
