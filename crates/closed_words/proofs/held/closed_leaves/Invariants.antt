use Rattle.std.proofs.Common.{◌≡◌, ◌++◌, map, drop}
use Rattle.table_model.specs.Closed.{leaf_at}
use Rattle.word_rows.specs.LayoutView.{shape_of}
use Rattle.closed_words.specs.Views.{as_leaf}
use Rattle.closed_words.proofs.held.closed_leaves.Given as goal

abbrev pub invariant-loop-bucket : goal.invariant-loop-bucket
invariant-loop-bucket g l =
    map as_leaf l.leaves.items ++ map (leaf_at (shape_of l.starts.layout) (g.W.Words.words l.words))
    (drop l.bucket-index l.bucket-items)
    ≡ map (leaf_at (shape_of l.starts.layout) (g.W.Words.words l.words)) l.bucket-items
