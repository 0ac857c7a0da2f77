use Rattle.std.proofs.Common.{◌≡◌, length, map}
use Rattle.word_rows.specs.LayoutView.{shape_of}
use Rattle.table_model.specs.Closing.{log_of, read_in}
use Rattle.history_order.proofs.Rows.{Went, IsMore}
use Rattle.history_order.proofs.unit_lists.units.Given as goal

abbrev pub invariant-loop-seat : goal.invariant-loop-seat
invariant-loop-seat g l =
    (length l.units ≡ length l.fn.units)
    × Went (λ seat. IsMore (shape_of l.starts.layout) (g.W.Words.words l.words) l.versions
    (log_of (read_in l.logs) seat) seat)
    (map (λ list. list.items) l.fn.units) l.seat (map (λ list. list.items) l.units)
