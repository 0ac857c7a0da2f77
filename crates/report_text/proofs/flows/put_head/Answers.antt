use Rattle.report_text.specs.Flows.{flows_head}
use Rattle.report_text.proofs.LineLemmas.{◌⨟◌, line_whole}
use Rattle.report_text.proofs.flows.put_head.Goals as goal

pub returns : goal.returns
unfolding flows_head
returns c =
    line_whole c.begin_line.ensures.begins
    (c.put_word.ensures.puts ⨟ c.put_named.ensures.puts ⨟ c.put_named-2.ensures.puts ⨟ c.put_named-3.ensures.puts
    ⨟ c.put_named-4.ensures.puts ⨟ c.put_calls.ensures.puts ⨟ c.put_every.ensures.puts)
    c.end_line.ensures.ends
