use Rattle.totals_runner.specs.Adds.{add_steps_line}
use Rattle.report_text.proofs.LineLemmas.{◌⨟◌, line_whole}
use Rattle.totals_runner.proofs.adds.put_steps.Goals as goal

pub returns : goal.returns
unfolding add_steps_line
returns c =
    line_whole c.begin_line.ensures.begins (c.put_named.ensures.puts ⨟ c.put_named-2.ensures.puts)
    c.end_line.ensures.ends
