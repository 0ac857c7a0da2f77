-- The records that are read are those of the logs.
use Rattle.std.proofs.Common.{◌≡◌, List, Vec, Global, map, sym, ap, ◌∙◌, subst}
use Rattle.std.specs.Prelude.{IfOk}
use Rattle.plain_map.specs.declared.records.CallId.{CallId}
use Rattle.plain_map.specs.declared.records.Pending.{Pending}
use Rattle.plain_map.specs.declared.records.Record.{Record}
use Rattle.plain_map.specs.History.{ids_of}
use Rattle.word_rows.specs.declared.layout.Layout.{Layout}
use Rattle.word_rows.specs.LayoutView.{shape_of}
use Rattle.table_model.specs.Order.{order_of}
use Rattle.table_model.specs.Closing.{IsOfARun, closing_with, read_in}
use Rattle.play_runner.proofs.ending.order_left.Goals as goal

pub order-requires : goal.order-requires
order-requires c =
    let item : Vec Record Global → List Record = λ (log : Vec Record Global). log.items in
    let records : read_in c.deref-2.result.now ≡ map item c.args.left.now.logs.items =
    ap read_in c.deref-2.ensures.value ∙ c.in_ok-records.ensures ∙ ap (map item) c.deref.ensures.value in
    subst (λ (x : Layout × List (List Record) × List Pending).
    IsOfARun (shape_of x.0) c.args.left.now.rows.words.items x.1 x.2)
    (λ i. (sym c.new-starts.ensures i, sym records i, sym c.deref-3.ensures.value i)) c.requires

pub returns : goal.returns
returns c =
    let item : Vec Record Global → List Record = λ (log : Vec Record Global). log.items in
    let records : read_in c.deref-2.result.now ≡ map item c.args.left.now.logs.items =
    ap read_in c.deref-2.ensures.value ∙ c.in_ok-records.ensures ∙ ap (map item) c.deref.ensures.value in
    subst (λ (x : Layout × List (List Record) × List Pending). IfOk c.order.result (λ (order : Vec CallId Global).
    order.items ≡ ids_of (order_of (shape_of x.0) (closing_with c.args.left.now.rows.words.items x.1 x.2))))
    (λ i. (c.new-starts.ensures i, records i, c.deref-3.ensures.value i)) c.order.ensures
