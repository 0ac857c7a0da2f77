use Rattle.std.proofs.Common.{ℕ, Bool, ◌+◌, ◌-◌, ◌∙◌, sym, arith}
use Rattle.plain_map.specs.declared.records.TheConstants.{MOST_SEATS}
use Rattle.table_model.specs.Closing.{read_in}
use Rattle.history_order.specs.Tables.{is_none_or_next}
use Rattle.history_order.proofs.Alone.{next_alone}
use Rattle.history_order.proofs.Ranges.{range_goes, range_stops, all_ends}
use Rattle.history_order.proofs.ready.are_next_in.Goals as goal

pub returns-then-not-is_none_or_next : goal.returns-then-not-is_none_or_next
returns-then-not-is_none_or_next g c =
    let f : ℕ → Bool = is_none_or_next (read_in c.args.closed.now.logs.now) c.args.closed.now.begun.now
    c.args.found.now c.args.count.now c.args.seat c.args.unit in
    sym (range_stops f c.loop-other.other (MOST_SEATS - c.loop-other.other) (MOST_SEATS - (c.loop-other.other + 1))
    (omega arith) (sym c.is_none_or_next.ensures ∙ c.if-not-is_none_or_next.true)) ∙ c.loop-other.invariant

pub loop-other-preserved : goal.loop-other-preserved
loop-other-preserved g c =
    let f : ℕ → Bool = is_none_or_next (read_in c.args.closed.now.logs.now) c.args.closed.now.begun.now
    c.args.found.now c.args.count.now c.args.seat c.args.unit in
    sym (range_goes f c.loop-other.other (MOST_SEATS - c.loop-other.other) (MOST_SEATS - (c.loop-other.other + 1))
    (omega arith) (sym c.is_none_or_next.ensures ∙ c.if-not-is_none_or_next.false)) ∙ c.loop-other.invariant

pub returns : goal.returns
returns g c =
    let f : ℕ → Bool = is_none_or_next (read_in c.args.closed.now.logs.now) c.args.closed.now.begun.now
    c.args.found.now c.args.count.now c.args.seat c.args.unit in
    all_ends f c.loop-other.other MOST_SEATS (omega arith) ∙ c.loop-other.invariant

pub returns-then-is_alone : goal.returns-then-is_alone
returns-then-is_alone g c =
    c.is_next_in.ensures
    ∙ sym (next_alone (read_in c.args.closed.now.logs.now) c.args.closed.now.begun.now c.args.found.now
    c.args.count.now c.args.seat c.args.unit c.requires (c.is_alone.ensures c.if-is_alone.true))
