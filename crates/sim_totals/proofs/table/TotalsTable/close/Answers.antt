use Rattle.std.proofs.Common.{◌≡◌, ℕ, List, ap, sym, subst, arith}
use Rattle.sim_steps.specs.Layout.{Settings}
use Rattle.sim_totals.specs.Rule.{plain}
use Rattle.sim_totals.specs.Values.{TableValue, Ran}
use Rattle.sim_totals.specs.Insides.{Left}
use Rattle.sim_totals.proofs.Closed.{short_order, ran}
use Rattle.sim_totals.proofs.table.TotalsTable.close.Goals as goal

pub returns-clause-ran : goal.returns-clause-ran
returns-clause-ran c =
    let k : Settings = plain c.self.inside.table.shared.key in
    let same : k ≡ c.args.self.settings = ap (λ (t : TableValue). t.settings) c.self.view_is in
    let left : Left k c.as_slice-closed.result.now c.args.adders.items =
    subst (λ (ws : List ℕ). Left k ws c.args.adders.items)
    (sym c.as_slice-closed.ensures.value) c.end.ensures.left in
    subst (λ (q : Settings). Ran q c.read_totals.result c.read_order_into.new.out.items c.args.adders.items) same
    (ran k c.self.inside.desk c.self.invariant.desk c.as_slice-closed.result.now c.args.adders.items left
    c.read_totals.result c.read_order_into.new.out.items c.read_order_into.ensures c.read_totals.ensures.counts
    c.read_totals.ensures.bytes)

pub read_order_into-requires-clause-room : goal.read_order_into-requires-clause-room
read_order_into-requires-clause-room c =
    let k : Settings = plain c.self.inside.table.shared.key in
    let left : Left k c.as_slice-closed.result.now c.args.adders.items =
    subst (λ (ws : List ℕ). Left k ws c.args.adders.items)
    (sym c.as_slice-closed.ensures.value) c.end.ensures.left in
    let s = short_order k c.self.inside.desk c.self.invariant.desk c.as_slice-closed.result.now c.args.adders.items
    left c.order.ensures.short c.self.invariant.settings in
    omega (arith, s.0, c.in-Ok-with_capacity.ensures.capacity)

pub read_order_into-requires-clause-small : goal.read_order_into-requires-clause-small
read_order_into-requires-clause-small c =
    let k : Settings = plain c.self.inside.table.shared.key in
    let left : Left k c.as_slice-closed.result.now c.args.adders.items =
    subst (λ (ws : List ℕ). Left k ws c.args.adders.items)
    (sym c.as_slice-closed.ensures.value) c.end.ensures.left in
    let s = short_order k c.self.inside.desk c.self.invariant.desk c.as_slice-closed.result.now c.args.adders.items
    left c.order.ensures.short c.self.invariant.settings in
    s.1
