use Rattle.report_text.specs.Report.{steps_line}
use Rattle.report_text.proofs.LineLemmas.{◌⨟◌, line_whole}
use Rattle.report_text.proofs.tail.put_steps.Goals as goal

pub returns : goal.returns
unfolding steps_line
returns c =
    line_whole c.begin_line.ensures.begins
    (c.put_named.ensures.puts ⨟ c.put_named-2.ensures.puts ⨟ c.put_named-3.ensures.puts)
    c.end_line.ensures.ends
