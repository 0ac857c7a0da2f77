use Rattle.std.proofs.Common.{append_assoc, rules}
use Rattle.report_text.specs.Report.{tail_lines}
use Rattle.report_text.proofs.tail.put_tail.Goals as goal

pub returns : goal.returns
unfolding tail_lines
returns c = search (rules, append_assoc)
