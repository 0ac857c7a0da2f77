use Rattle.std.proofs.Common.{ℕ, Bool, ◌+◌, ◌-◌, ◌∙◌, sym, arith, le-leb}
use Rattle.std.specs.Prelude.{nat_le, slice_index}
use Rattle.plain_map.specs.declared.records.TheConstants.{MOST_SEATS}
use Rattle.history_order.proofs.Ranges.{range_goes}
use Rattle.history_order.proofs.ready.has_come.Goals as goal

pub loop-seat-preserved : goal.loop-seat-preserved
loop-seat-preserved c =
    let f : ℕ → Bool = λ seat. nat_le (slice_index c.args.seen.now.counts seat) (slice_index c.args.count.now seat) in
    sym (range_goes f c.loop-seat.seat (MOST_SEATS - c.loop-seat.seat) (MOST_SEATS - (c.loop-seat.seat + 1))
    (omega arith) (le-leb (slice_index c.args.seen.now.counts c.loop-seat.seat)
    (slice_index c.args.count.now c.loop-seat.seat) c.if-seen-seat.false)) ∙ c.loop-seat.invariant
