use Rattle.std.proofs.Common.{◌≡◌, ◌-◌}
use Rattle.std.specs.Prelude.{nat_le, slice_index}
use Rattle.std.specs.List.{list_all, range_with_len}
use Rattle.plain_map.specs.declared.records.TheConstants.{MOST_SEATS}
use Rattle.history_order.specs.Tables.{has_come}
use Rattle.history_order.proofs.ready.has_come.Given as goal

abbrev pub invariant-loop-seat : goal.invariant-loop-seat
invariant-loop-seat l =
    list_all (λ seat. nat_le (slice_index l.seen.counts seat) (slice_index l.count seat))
    (range_with_len l.seat (MOST_SEATS - l.seat))
    ≡ has_come l.count l.seen.counts
