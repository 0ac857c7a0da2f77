use Rattle.report_text.specs.Report.{input_line}
use Rattle.report_text.proofs.LineLemmas.{line_whole}
use Rattle.report_text.proofs.tail.put_input.Goals as goal

pub returns-clause-appended : goal.returns-clause-appended
unfolding input_line
returns-clause-appended c =
    line_whole c.begin_line.ensures.begins c.put_ending.ensures.puts c.end_line.ensures.ends
