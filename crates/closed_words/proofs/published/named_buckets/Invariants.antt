use Rattle.std.proofs.Common.{◌≡◌, ◌++◌, drop}
use Rattle.std.specs.List.{flat_map}
use Rattle.table_model.specs.Reading.{directory_at}
use Rattle.word_rows.specs.LayoutView.{shape_of}
use Rattle.closed_words.proofs.published.named_buckets.Given as goal

abbrev pub invariant-loop-row : goal.invariant-loop-row
invariant-loop-row g l =
    l.named.items ++ flat_map (λ row. (directory_at (shape_of l.starts.layout)
    (g.W.Words.words l.words) row).entries) (drop l.row-index l.row-items)
    ≡ flat_map (λ row. (directory_at (shape_of l.starts.layout) (g.W.Words.words l.words) row).entries) l.row-items
