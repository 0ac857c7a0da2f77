use Rattle.std.proofs.Common.{sym, arith}
use Rattle.report_check.proofs.WholeLemmas.{all_there, missing_at, none_counted, some_counted, there_more}
use Rattle.report_check.proofs.whole.first_missing.Goals as goal

pub returns-then-not-stands : goal.returns-then-not-stands
returns-then-not-stands c = λ sorted rises.
    missing_at c.args.calls.now c.args.sorted.now c.loop-call.call-index _ sorted
    (omega (arith, c.loop-call-test.true, c.loop-call.auto.call-index-end)) (c.loop-call.invariant rises)
    (none_counted _ (sym (c.if-not-stands.ensures rises)))

pub loop-call-preserved : goal.loop-call-preserved
loop-call-preserved c = λ rises.
    there_more c.args.calls.now c.args.sorted.now c.loop-call.call-index _
    (omega (arith, c.loop-call-test.true, c.loop-call.auto.call-index-end)) (c.loop-call.invariant rises)
    (some_counted _ (sym (c.if-not-stands.ensures rises)))

pub returns : goal.returns
returns c = λ sorted rises.
    all_there c.args.calls.now c.args.sorted.now c.loop-call.call-index (omega (arith, c.loop-call-test.false))
    (c.loop-call.invariant rises)
