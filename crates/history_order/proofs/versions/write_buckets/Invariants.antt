use Rattle.std.proofs.Common.{◌≡◌, ◌++◌, List, drop, flat_map}
use Rattle.plain_map.specs.declared.records.Record.{Record}
use Rattle.word_rows.specs.LayoutView.{shape_of}
use Rattle.history_order.specs.Filling.{exchanged_of, firsts_in}
use Rattle.history_order.specs.Fills.{AreWritten}
use Rattle.history_order.proofs.versions.write_buckets.Given as goal

abbrev pub invariant-loop-bucket : goal.invariant-loop-bucket
invariant-loop-bucket g l = record {
  firsts : l.firsts.items ++ firsts_in (shape_of l.starts.layout) (g.W.Words.words l.words)
      (drop l.bucket-index l.buckets)
      ≡ firsts_in (shape_of l.starts.layout) (g.W.Words.words l.words) l.buckets;
  rows : l.columns.rows.items ++ flat_map (exchanged_of (shape_of l.starts.layout) (g.W.Words.words l.words))
      (drop l.bucket-index l.buckets)
      ≡ l.fn.columns.rows.items ++ flat_map (exchanged_of (shape_of l.starts.layout) (g.W.Words.words l.words))
      l.buckets;
  columns : (logs : List (List Record)) →
      AreWritten (shape_of l.starts.layout) (g.W.Words.words l.words) logs l.fn.columns →
      AreWritten (shape_of l.starts.layout) (g.W.Words.words l.words) logs l.columns;
}
