use Rattle.report_text.specs.Report.{leaves_line}
use Rattle.report_text.proofs.LineLemmas.{◌⨟◌, line_whole}
use Rattle.report_text.proofs.tail.put_leaves.Goals as goal

pub returns-clause-appended : goal.returns-clause-appended
unfolding leaves_line
returns-clause-appended c =
    line_whole c.begin_line.ensures.begins
    (c.put_number.ensures.puts ⨟ c.put_named.ensures.puts)
    c.end_line.ensures.ends
