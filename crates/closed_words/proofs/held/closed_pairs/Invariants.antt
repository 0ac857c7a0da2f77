use Rattle.std.proofs.Common.{◌≡◌, ◌++◌, drop}
use Rattle.std.specs.List.{flat_map}
use Rattle.table_model.specs.Reading.{bucket_at, row_of}
use Rattle.word_rows.specs.LayoutView.{shape_of}
use Rattle.closed_words.proofs.held.closed_pairs.Given as goal

abbrev pub invariant-loop-bucket : goal.invariant-loop-bucket
invariant-loop-bucket g l =
    l.pairs.items ++ flat_map (λ bucket. (bucket_at (shape_of l.starts.layout) (g.W.Words.words l.words)
    (row_of (shape_of l.starts.layout) (g.W.Words.words l.words) bucket)).items)
    (drop l.bucket-index l.bucket-items)
    ≡ flat_map (λ bucket. (bucket_at (shape_of l.starts.layout) (g.W.Words.words l.words)
    (row_of (shape_of l.starts.layout) (g.W.Words.words l.words) bucket)).items) l.bucket-items
