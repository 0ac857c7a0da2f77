use Rattle.std.proofs.Common.{List, Vec, Global}
use Rattle.trace_share.specs.declared.outcome.Outcome.{Outcome}
use Rattle.batch_runner.specs.Told.{served_with}
use Rattle.batch_runner.proofs.Kept.{items_of, kept_closed, kept_totals}
use Rattle.batch_runner.proofs.Telling.{told_on}
use Rattle.batch_runner.proofs.batch.close_logged.Goals as goal

pub told-requires-clause-closed : goal.told-requires-clause-closed
told-requires-clause-closed c =
    let logs : List (Vec Outcome Global) = c.in_ok-closed.logs.items in (
      items_of logs,
      kept_totals c.deref.result.now logs c.deref-2.result.now c.in_ok-totals.totals.items c.deref.ensures.value
          c.deref-2.ensures.value c.in_ok-totals.ensures,
      kept_closed c.args.asked.now.service.now c.args.asked.now.first.now c.args.asked.now.calls.now
          c.in_ok-closed.closed logs c.in_ok-closed.ensures,
    )

pub returns-clause-closed : goal.returns-clause-closed
returns-clause-closed c =
    kept_closed c.args.asked.now.service.now c.args.asked.now.first.now c.args.asked.now.calls.now c.in_ok-closed.closed
    c.in_ok-closed.logs.items c.in_ok-closed.ensures

pub returns-clause-told : goal.returns-clause-told
returns-clause-told c =
    let logs : List (Vec Outcome Global) = c.in_ok-closed.logs.items in
    c.in_ok-batch.ensures.told (items_of logs)
    (kept_totals c.deref.result.now logs c.deref-2.result.now c.in_ok-totals.totals.items c.deref.ensures.value
    c.deref-2.ensures.value c.in_ok-totals.ensures)
    (kept_closed c.args.asked.now.service.now c.args.asked.now.first.now c.args.asked.now.calls.now
    c.in_ok-closed.closed logs c.in_ok-closed.ensures)

pub returns-clause-goes_on : goal.returns-clause-goes_on
unfolding returns-clause-told
returns-clause-goes_on c =
    let service = c.args.asked.now.service.now in
    let has = returns-clause-told c in
    told_on service
    (served_with c.args.asked.now.first.now c.args.asked.now.calls.now (items_of c.in_ok-closed.logs.items)
    c.in_ok-closed.closed has.some.0 c.in_ok-batch.batch) c.in_ok-batch.batch (has.served has.some.0 has.some.1)
    (has.told has.some.0 has.some.1)
