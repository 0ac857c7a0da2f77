use Rattle.std.proofs.Common.{◌≡◌, drop}
use Rattle.std.specs.List.{list_all}
use Rattle.history_order.specs.Tables.{is_marked_done}
use Rattle.history_order.proofs.ready.are_marked_done.Given as goal

abbrev pub invariant-loop-row : goal.invariant-loop-row
invariant-loop-row l =
    list_all (is_marked_done l.placed l.looks) (drop l.row-index l.rows)
    ≡ list_all (is_marked_done l.placed l.looks) l.rows
