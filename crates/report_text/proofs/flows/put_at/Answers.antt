use Rattle.report_text.specs.Flows.{at_line}
use Rattle.report_text.proofs.LineLemmas.{line_whole}
use Rattle.report_text.proofs.flows.put_at.Goals as goal

pub returns : goal.returns
unfolding at_line
returns c = line_whole c.begin_line.ensures.begins c.put_number.ensures.puts c.end_line.ensures.ends
