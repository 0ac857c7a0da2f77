use Rattle.report_text.specs.Flows.{flow_count_line}
use Rattle.report_text.proofs.LineLemmas.{◌⨟◌, line_whole}
use Rattle.report_text.proofs.flows.put_count.Goals as goal

pub returns : goal.returns
unfolding flow_count_line
returns c =
    line_whole c.begin_line.ensures.begins
    (c.put_named.ensures.puts ⨟ c.put_named-2.ensures.puts ⨟ c.put_named-3.ensures.puts
    ⨟ c.put_named-4.ensures.puts ⨟ c.put_named-5.ensures.puts ⨟ c.put_named-6.ensures.puts
    ⨟ c.put_named-7.ensures.puts ⨟ c.put_named-8.ensures.puts ⨟ c.put_named-9.ensures.puts
    ⨟ c.put_named-10.ensures.puts)
    c.end_line.ensures.ends
