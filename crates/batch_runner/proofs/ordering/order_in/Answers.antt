use Rattle.std.proofs.Common.{◌≡◌, List, [], Vec, Global, sym, ap, ◌∙◌, subst}
use Rattle.std.specs.Prelude.{IfOk}
use Rattle.plain_map.specs.declared.records.CallId.{CallId}
use Rattle.plain_map.specs.declared.records.Record.{Record}
use Rattle.plain_map.specs.History.{ids_of}
use Rattle.word_rows.specs.Shape.{Shape}
use Rattle.word_rows.specs.LayoutView.{shape_of}
use Rattle.table_model.specs.Order.{order_of}
use Rattle.table_model.specs.Closing.{IsOfARun, closing_with, read_in}
use Rattle.batch_runner.proofs.ordering.order_in.Goals as goal

pub order-requires : goal.order-requires
order-requires c =
    let shape : shape_of c.new-starts.result.layout ≡ c.args.closed.now.shape =
    ap shape_of c.new-starts.ensures ∙ c.layout.ensures in
    let records = ap read_in c.deref.ensures.value ∙ c.in_ok-records.ensures in
    subst (λ (x : Shape × List (List Record)). IsOfARun x.0 c.args.closed.now.words x.1 [])
    (λ i. (sym shape i, sym records i)) c.requires

pub returns : goal.returns
returns c =
    let shape : shape_of c.new-starts.result.layout ≡ c.args.closed.now.shape =
    ap shape_of c.new-starts.ensures ∙ c.layout.ensures in
    let records = ap read_in c.deref.ensures.value ∙ c.in_ok-records.ensures in
    subst (λ (x : Shape × List (List Record)). IfOk c.order.result (λ (order : Vec CallId Global).
    order.items ≡ ids_of (order_of x.0 (closing_with c.args.closed.now.words x.1 []))))
    (λ i. (shape i, records i)) c.order.ensures
