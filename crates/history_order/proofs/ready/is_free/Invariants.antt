use Rattle.std.proofs.Common.{◌≡◌, ◌-◌}
use Rattle.std.specs.Prelude.{not}
use Rattle.std.specs.List.{list_all, range_with_len}
use Rattle.plain_map.specs.declared.records.TheConstants.{MOST_SEATS}
use Rattle.history_order.specs.Tables.{has_call_in, is_free}
use Rattle.history_order.proofs.ready.is_free.Given as goal

abbrev pub invariant-loop-seat : goal.invariant-loop-seat
invariant-loop-seat l =
    list_all (λ seat. not (has_call_in l.found l.fn.unit 0 seat)) (range_with_len l.seat (MOST_SEATS - l.seat))
    ≡ is_free l.found l.fn.unit
