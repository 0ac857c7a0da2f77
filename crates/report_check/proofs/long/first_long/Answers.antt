use Rattle.std.proofs.Common.{arith}
use Rattle.report_check.proofs.LongLemmas.{long_at}
use Rattle.report_check.proofs.long.first_long.Goals as goal

pub returns-then-is_update : goal.returns-then-is_update
returns-then-is_update c =
    long_at c.args.bound c.args.calls.now c.loop-call.call-index _
    (omega arith) c.loop-call.invariant c.if-call-bound.true
    c.if-is_update.ensures
