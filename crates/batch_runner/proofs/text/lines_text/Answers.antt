-- The lines of a batch, and the text as it was where memory ran out.
use Rattle.std.proofs.Common.{◌≡◌, ◌++◌, ℕ, List, [], Vec, Global, map, refl, sym, ap, ◌∙◌, subst}
use Rattle.std.specs.Borrow.{Bor}
use Rattle.std.specs.Prelude.{All}
use Rattle.plain_map.specs.declared.calls.Call.{Call}
use Rattle.plain_map.specs.Calls.{key_in}
use Rattle.key_texts.specs.FlowText.{HasText}
use Rattle.plain_map.specs.declared.records.CallId.{CallId}
use Rattle.plain_map.specs.History.{ids_of}
use Rattle.table_model.specs.Order.{order_of}
use Rattle.table_model.specs.Closing.{closing_with}
use Rattle.trace_share.specs.declared.outcome.Outcome.{Outcome}
use Rattle.trace_share.specs.Outcomes.{records_in}
use Rattle.batch_runner.specs.Served.{AreInPacketOrder}
use Rattle.report_text.specs.Report.{call_in}
use Rattle.batch_runner.specs.Told.{read_there}
use Rattle.batch_runner.proofs.Counted.{unmap_all}
use Rattle.batch_runner.proofs.Lines.{lines_are}
use Rattle.batch_runner.proofs.Telling.{told_calls}
use Rattle.batch_runner.proofs.text.lines_text.Goals as goal

pub put_lines-requires-clause-texts : goal.put_lines-requires-clause-texts
put_lines-requires-clause-texts g c =
    let T : ℕ × Outcome → Type 0 = λ (o : ℕ × Outcome). HasText (key_in (call_in o.1)) in
    let outcomes : List (ℕ × Outcome) = read_there c.in_ok-outcomes.outcomes.items in
    subst (All (λ (o : ℕ × Bor Outcome). HasText (key_in (call_in o.1.now)))) (sym c.deref.ensures.value)
    (unmap_all T (λ (o : ℕ × Bor Outcome). (o.0, o.1.now)) c.in_ok-outcomes.outcomes.items
    (told_calls (λ (call : Call). HasText (key_in call)) c.args.untold.now.calls.now outcomes
    c.in_ok-outcomes.ensures.asked c.requires.texts))

pub returns-clause-told : goal.returns-clause-told
returns-clause-told g c =
    let closed = c.args.untold.now.closed.now in
    let logs : List (List Outcome) = map (λ (log : Vec Outcome Global). log.items) c.args.untold.now.logs.now in
    let outcomes : List (ℕ × Bor Outcome) = c.deref.result.now in
    let order : List CallId = ids_of (order_of closed.shape (closing_with closed.words (map records_in logs) [])) in
    let is = lines_are c.args.untold.now.service.now.settings.seats c.args.untold.now.before.now outcomes order in (
      _,
      (
        read_there outcomes,
        subst (λ (os : List (ℕ × Bor Outcome)). AreInPacketOrder c.args.untold.now.calls.now logs (read_there os))
            (sym c.deref.ensures.value) c.in_ok-outcomes.ensures,
        refl,
      ),
      c.in_default.ensures.appended ∙ ap (λ (l : List ℕ). c.args.out.now.items ++ l) is,
    )
