use Rattle.std.proofs.Common.{◌≡◌, ◌-◌}
use Rattle.std.specs.List.{list_all, range_with_len}
use Rattle.plain_map.specs.declared.records.TheConstants.{MOST_SEATS}
use Rattle.table_model.specs.Closing.{read_in}
use Rattle.history_order.specs.Tables.{is_none_or_next, are_next_in}
use Rattle.history_order.proofs.ready.are_next_in.Given as goal

abbrev pub invariant-loop-other : goal.invariant-loop-other
invariant-loop-other g l =
    list_all (is_none_or_next (read_in l.closed.logs.now) l.closed.begun.now l.found l.count l.seat
    l.unit)
    (range_with_len l.other (MOST_SEATS - l.other))
    ≡ are_next_in (read_in l.closed.logs.now) l.closed.begun.now l.found l.count l.seat l.unit
