use Rattle.std.proofs.Common.{◌≡◌, ◌++◌, ◌∷◌, [], drop, filter}
use Rattle.word_rows.specs.LayoutView.{shape_of}
use Rattle.history_order.specs.Columns.{is_free}
use Rattle.history_order.proofs.columns.free.Given as goal

abbrev pub invariant-loop-row : goal.invariant-loop-row
invariant-loop-row g l =
    l.free.items ++ filter (λ row. is_free (shape_of l.starts.layout) (g.W.Words.words l.words) (row ∷ []))
    (drop l.row-index l.exchanged)
    ≡ filter (λ row. is_free (shape_of l.starts.layout) (g.W.Words.words l.words) (row ∷ [])) l.exchanged
