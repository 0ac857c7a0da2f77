use Rattle.std.proofs.Common.{◌≡◌, ℕ, length, map, nat_lt, ◌&&◌, slice_index_or, false}
use Rattle.std.specs.Prelude.{is_some}
use Rattle.word_rows.specs.LayoutView.{shape_of}
use Rattle.table_model.specs.Order.{new_number}
use Rattle.history_order.specs.Columns.{IsUnitPut, row_place}
use Rattle.history_order.specs.declared.tables.Unit.TheVariants.{Row}
use Rattle.history_order.proofs.Rows.{Went}
use Rattle.history_order.proofs.row_columns.write_units.Given as goal

abbrev pub invariant-loop-seat : goal.invariant-loop-seat
invariant-loop-seat g l =
    (length l.callers ≡ 8)
    × ((seat : ℕ) → slice_index_or l.callers seat false ≡ (nat_lt seat l.seat
    && is_some (new_number (shape_of l.starts.layout) (g.W.Words.words l.words) seat l.row)))
    × (length l.units ≡ length l.fn.units)
    × Went (λ seat. IsUnitPut (row_place (shape_of l.starts.layout) (g.W.Words.words l.words) seat l.row) (Row l.row))
    (map (λ list. list.items) l.fn.units) l.seat (map (λ list. list.items) l.units)
