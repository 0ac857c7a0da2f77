use Rattle.std.proofs.Common.{◌≡◌, ◌++◌, Some, drop}
use Rattle.std.specs.List.{flat_map}
use Rattle.table_model.specs.Reading.{bucket_line, row_of}
use Rattle.word_rows.specs.LayoutView.{shape_of}
use Rattle.closed_words.proofs.published.bucket_rows.Given as goal

abbrev pub invariant-loop-bucket : goal.invariant-loop-bucket
invariant-loop-bucket g l =
    l.rows.items ++ flat_map (λ bucket. bucket_line (shape_of l.starts.layout) (g.W.Words.words l.words)
    (Some (row_of (shape_of l.starts.layout) (g.W.Words.words l.words) bucket)))
    (drop l.bucket-index l.bucket-items)
    ≡ flat_map (λ bucket. bucket_line (shape_of l.starts.layout) (g.W.Words.words l.words)
    (Some (row_of (shape_of l.starts.layout) (g.W.Words.words l.words) bucket))) l.bucket-items
