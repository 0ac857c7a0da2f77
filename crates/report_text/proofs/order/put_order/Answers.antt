use Rattle.report_text.specs.Report.{order_line}
use Rattle.report_text.proofs.LineLemmas.{line_whole}
use Rattle.report_text.proofs.order.put_order.Goals as goal

pub returns : goal.returns
unfolding order_line
returns c = line_whole c.begin_line.ensures.begins c.put_packets.ensures.puts c.end_line.ensures.ends
