-- The list of the seat is changed, and no other.
use Rattle.std.proofs.Common.{◌≡◌, ◌<◌, List, None, Option, Vec, Global, length, get_or, ◌∙◌, subst, arith}
use Rattle.history_order.specs.Columns.{IsUnitPut}
use Rattle.history_order.specs.declared.tables.Unit.{Unit}
use Rattle.history_order.proofs.Rows.{list_changed, list_others}
use Rattle.history_order.proofs.row_columns.put_unit.Goals as goal

pub returns-clause-others : goal.returns-clause-others
returns-clause-others c = list_others c.args.units.now c.args.seat _

pub returns-clause-put : goal.returns-clause-put
returns-clause-put c =
    let inside : c.args.seat < length c.args.units.now = omega (arith, c.if-seat-units.false) in
    let here : Vec (Option Unit) Global = get_or c.args.units.now c.args.seat c.index-units-seat.result in
    let same : c.deref_mut.result.now ≡ here.items = c.deref_mut.ensures.value in
    list_changed c.args.units.now c.args.seat (IsUnitPut c.args.place c.args.unit) c.index-units-seat.result
    c.put.new.column inside
    (c.put.ensures.len ∙ c.deref_mut.ensures.len)
    (subst (λ (xs : List (Option Unit)). IsUnitPut c.args.place c.args.unit xs c.put.new.column) same
    (c.put.ensures.len, λ place. c.put.ensures.reads place None))
