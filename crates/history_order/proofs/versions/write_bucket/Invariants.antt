use Rattle.std.proofs.Common.{◌≡◌, ◌++◌, ◌-◌, List}
use Rattle.std.specs.Prelude.{find, not}
use Rattle.plain_map.specs.declared.records.Record.{Record}
use Rattle.plain_map.specs.declared.full.FullKind.TheVariants.{BucketRows}
use Rattle.word_rows.specs.Shape.{count_of}
use Rattle.word_rows.specs.LayoutView.{shape_of}
use Rattle.table_model.specs.Reading.{line, bucket_row, first_row, is_exchanged}
use Rattle.history_order.specs.Filling.{while_true, exchanged_of}
use Rattle.history_order.specs.Fills.{AreWritten}
use Rattle.history_order.proofs.versions.write_bucket.Given as goal

abbrev pub invariant-loop : goal.invariant-loop
invariant-loop g l = record {
  first : find (λ row. not (is_exchanged (shape_of l.starts.layout) (g.W.Words.words l.words) row))
      (line (λ r. (bucket_row (shape_of l.starts.layout) (g.W.Words.words l.words) r).base)
      (count_of (shape_of l.starts.layout) BucketRows - l.counter) l.next)
      ≡ first_row (shape_of l.starts.layout) (g.W.Words.words l.words) l.fn.bucket;
  rows : l.columns.rows.items ++ while_true (is_exchanged (shape_of l.starts.layout) (g.W.Words.words l.words))
      (line (λ r. (bucket_row (shape_of l.starts.layout) (g.W.Words.words l.words) r).base)
      (count_of (shape_of l.starts.layout) BucketRows - l.counter) l.next)
      ≡ l.fn.columns.rows.items ++ exchanged_of (shape_of l.starts.layout) (g.W.Words.words l.words) l.fn.bucket;
  columns : (logs : List (List Record)) →
      AreWritten (shape_of l.starts.layout) (g.W.Words.words l.words) logs l.fn.columns →
      AreWritten (shape_of l.starts.layout) (g.W.Words.words l.words) logs l.columns;
}
