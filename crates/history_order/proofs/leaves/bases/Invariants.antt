use Rattle.std.proofs.Common.{◌≡◌, ◌++◌, drop}
use Rattle.word_rows.specs.LayoutView.{shape_of}
use Rattle.history_order.specs.Filling.{bases_in}
use Rattle.history_order.proofs.leaves.bases.Given as goal

abbrev pub invariant-loop-row : goal.invariant-loop-row
invariant-loop-row g l =
    l.bases.items ++ bases_in (shape_of l.starts.layout) (g.W.Words.words l.words) (drop l.row-index l.rows)
    ≡ bases_in (shape_of l.starts.layout) (g.W.Words.words l.words) l.rows
