use Rattle.report_text.specs.Report.{session_line}
use Rattle.report_text.proofs.LineLemmas.{◌⨟◌, line_whole}
use Rattle.report_text.proofs.session.put_session.Goals as goal

pub returns : goal.returns
unfolding session_line
returns c =
    line_whole c.begin_line.ensures.begins
    (c.put_key.ensures.puts ⨟ c.put_number.ensures.puts ⨟ c.put_named.ensures.puts)
    c.end_line.ensures.ends
