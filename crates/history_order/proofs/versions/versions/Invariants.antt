use Rattle.std.proofs.Common.{◌≡◌, ◌++◌, ℕ, [], List, length, map, drop, Some, slice_index_or}
use Rattle.std.specs.Prelude.{slice_get}
use Rattle.plain_map.specs.declared.records.Record.{Record}
use Rattle.word_rows.specs.LayoutView.{shape_of}
use Rattle.history_order.specs.Columns.{IsMade}
use Rattle.history_order.specs.Filling.{exchanged_in}
use Rattle.history_order.specs.Fills.{AreWritten}
use Rattle.history_order.specs.declared.tables.Version.{Version}
use Rattle.history_order.proofs.versions.versions.Given as goal

abbrev pub invariant-loop-at : goal.invariant-loop-at
invariant-loop-at g l = record {
  many : length l.versions.items ≡ l.at;
  made : (at : ℕ) (version : Version) → slice_get l.versions.items at ≡ Some version →
      IsMade (shape_of l.starts.layout) (g.W.Words.words l.words) (slice_index_or l.rows at 0)
      (slice_index_or (map (λ buckets. buckets.items) l.leaves) at []) version;
  rows : l.columns.rows.items ++ exchanged_in (shape_of l.starts.layout) (g.W.Words.words l.words)
      (map (λ buckets. buckets.items) (drop l.at l.leaves))
      ≡ l.fn.columns.rows.items ++ exchanged_in (shape_of l.starts.layout) (g.W.Words.words l.words)
      (map (λ buckets. buckets.items) l.leaves);
  columns : (logs : List (List Record)) →
      AreWritten (shape_of l.starts.layout) (g.W.Words.words l.words) logs l.fn.columns →
      AreWritten (shape_of l.starts.layout) (g.W.Words.words l.words) logs l.columns;
}
