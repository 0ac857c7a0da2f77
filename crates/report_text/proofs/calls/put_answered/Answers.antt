use Rattle.report_text.specs.Report.{outcome_line}
use Rattle.report_text.proofs.LineLemmas.{◌⨟◌, line_whole}
use Rattle.report_text.proofs.calls.put_answered.Goals as goal

pub returns : goal.returns
unfolding outcome_line
returns c =
    line_whole c.begin_line.ensures.begins
    (c.put_call.ensures.puts ⨟ c.put_reply.ensures.puts ⨟ c.put_named.ensures.puts ⨟ c.put_after.ensures.puts)
    c.end_line.ensures.ends
