use Rattle.std.proofs.Common.{◌≡◌, ◌-◌}
use Rattle.std.specs.Prelude.{find}
use Rattle.std.specs.List.{range_with_len}
use Rattle.word_rows.specs.LayoutView.{shape_of}
use Rattle.table_model.specs.Closing.{read_in}
use Rattle.history_order.specs.Tables.{is_ready_in}
use Rattle.history_order.proofs.turns.next_seat.Given as goal

abbrev pub invariant-loop-seat : goal.invariant-loop-seat
invariant-loop-seat g l =
    find (is_ready_in (shape_of l.closed.starts.now.layout) (g.W.Words.words l.closed.words.now)
    (read_in l.closed.logs.now) l.closed.begun.now l.found l.progress l.count)
    (range_with_len l.seat ((shape_of l.closed.starts.now.layout).settings.seats - l.seat))
    ≡ find (is_ready_in (shape_of l.closed.starts.now.layout) (g.W.Words.words l.closed.words.now)
    (read_in l.closed.logs.now) l.closed.begun.now l.found l.progress l.count)
    (range_with_len 0 (shape_of l.closed.starts.now.layout).settings.seats)
