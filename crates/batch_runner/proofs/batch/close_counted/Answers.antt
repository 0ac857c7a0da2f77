use Rattle.std.proofs.Common.{List, refl, sym, subst}
use Rattle.std.specs.List.{AllZip}
use Rattle.batch_runner.specs.declared.totals.Totals.{Totals}
use Rattle.batch_runner.specs.Totals.{IsTotalOf}
use Rattle.batch_runner.proofs.Telling.{told_on}
use Rattle.batch_runner.proofs.batch.close_counted.Goals as goal

pub returns-clause-served : goal.returns-clause-served
returns-clause-served c =
    let closed = c.in_ok-closed.ensures in
    let has = c.in_ok-batch.ensures.told closed.0
    (subst (λ (each : List Totals). AllZip IsTotalOf each closed.0) (sym c.deref.ensures.value) closed.1) closed.2 in
    (_, refl, refl, has.served has.some.0 has.some.1, has.told has.some.0 has.some.1)

pub returns-clause-goes_on : goal.returns-clause-goes_on
unfolding returns-clause-served
returns-clause-goes_on c =
    let s = returns-clause-served c in
    told_on c.args.asked.now.service.now s.0 _ s.3 s.4
