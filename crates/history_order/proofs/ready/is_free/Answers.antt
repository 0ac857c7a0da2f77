use Rattle.std.proofs.Common.{ℕ, Bool, ◌+◌, ◌-◌, ◌∙◌, sym, ap, arith}
use Rattle.std.specs.Prelude.{not}
use Rattle.plain_map.specs.declared.records.TheConstants.{MOST_SEATS}
use Rattle.history_order.specs.Tables.{has_call_in}
use Rattle.history_order.proofs.Ranges.{range_goes, range_stops}
use Rattle.history_order.proofs.ready.is_free.Goals as goal

pub returns-then-callers-seat : goal.returns-then-callers-seat
returns-then-callers-seat c =
    let f : ℕ → Bool = λ seat. not (has_call_in c.args.found.now c.args.unit 0 seat) in
    sym (range_stops f c.loop-seat.seat (MOST_SEATS - c.loop-seat.seat) (MOST_SEATS - (c.loop-seat.seat + 1))
    (omega arith)
    (ap not (sym (c.callers_of-callers.ensures c.loop-seat.seat (omega arith)) ∙ c.if-callers-seat.true)))
    ∙ c.loop-seat.invariant

pub loop-seat-preserved : goal.loop-seat-preserved
loop-seat-preserved c =
    let f : ℕ → Bool = λ seat. not (has_call_in c.args.found.now c.args.unit 0 seat) in
    sym (range_goes f c.loop-seat.seat (MOST_SEATS - c.loop-seat.seat) (MOST_SEATS - (c.loop-seat.seat + 1))
    (omega arith)
    (ap not (sym (c.callers_of-callers.ensures c.loop-seat.seat (omega arith)) ∙ c.if-callers-seat.false)))
    ∙ c.loop-seat.invariant
