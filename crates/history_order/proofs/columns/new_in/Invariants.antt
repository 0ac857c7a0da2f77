use Rattle.std.proofs.Common.{◌≡◌, drop}
use Rattle.word_rows.specs.LayoutView.{shape_of}
use Rattle.table_model.specs.Order.{new_in_rows}
use Rattle.history_order.proofs.columns.new_in.Given as goal

abbrev pub invariant-loop-row : goal.invariant-loop-row
invariant-loop-row g l =
    new_in_rows (shape_of l.starts.layout) (g.W.Words.words l.words) (drop l.row-index l.rows) l.seat
    ≡ new_in_rows (shape_of l.starts.layout) (g.W.Words.words l.words) l.rows l.seat
