use Rattle.std.proofs.Common.{◌≡◌, ◌-◌, not}
use Rattle.std.specs.Prelude.{is_some}
use Rattle.std.specs.List.{list_all, range_with_len}
use Rattle.word_rows.specs.LayoutView.{shape_of}
use Rattle.table_model.specs.Order.{new_in_rows}
use Rattle.history_order.specs.Columns.{is_free}
use Rattle.history_order.proofs.columns.is_free.Given as goal

abbrev pub invariant-loop-seat : goal.invariant-loop-seat
invariant-loop-seat g l =
    list_all (λ seat. not (is_some (new_in_rows (shape_of l.starts.layout) (g.W.Words.words l.words) l.rows seat)))
    (range_with_len l.seat ((shape_of l.starts.layout).settings.seats - l.seat))
    ≡ is_free (shape_of l.starts.layout) (g.W.Words.words l.words) l.rows
