use Rattle.std.proofs.Common.{arith}
use Rattle.report_reading.proofs.KeptLemmas.{numbered_all, numbered_more}
use Rattle.report_reading.proofs.kept.number.Goals as goal

pub loop-call-preserved : goal.loop-call-preserved
loop-call-preserved c =
    numbered_more c.args.counts.now c.args.pending.now c.loop-call.pending c.loop-call.call-index c.next-call.result _
    c.loop-call.invariant (omega arith) c.next-call.ensures

pub returns : goal.returns
returns c =
    numbered_all c.args.counts.now c.args.pending.now c.loop-call.pending c.loop-call.call-index c.loop-call.invariant
    (omega arith)
