use Rattle.std.proofs.Common.{◌≡◌, ℕ, length, nat_lt, ◌&&◌, slice_index_or, false}
use Rattle.std.specs.Prelude.{is_some}
use Rattle.word_rows.specs.LayoutView.{shape_of}
use Rattle.table_model.specs.Order.{new_in_rows}
use Rattle.history_order.proofs.columns.callers_in.Given as goal

abbrev pub invariant-loop-seat : goal.invariant-loop-seat
invariant-loop-seat g l =
    (length l.callers ≡ 8)
    × ((seat : ℕ) → slice_index_or l.callers seat false ≡ (nat_lt seat l.seat
    && is_some (new_in_rows (shape_of l.starts.layout) (g.W.Words.words l.words) l.rows seat)))
