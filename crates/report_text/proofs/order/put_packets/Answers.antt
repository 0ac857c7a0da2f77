use Rattle.std.proofs.Common.{arith}
use Rattle.report_text.specs.Lines.{text_in}
use Rattle.report_text.proofs.LineLemmas.{puts_none}
use Rattle.report_text.proofs.OrderLemmas.{packets_more}
use Rattle.report_text.proofs.order.put_packets.Goals as goal

pub loop-id-init : goal.loop-id-init
loop-id-init c = record { written = puts_none (text_in c.args.out.now); space = omega arith }

pub loop-id-preserved : goal.loop-id-preserved
loop-id-preserved c = record {
  written =
      packets_more c.args.ids.now c.loop-id.id-index _ c.loop-id-test.true c.loop-id.invariant.written
      c.put_number.ensures.puts;
  space = omega arith;
}
