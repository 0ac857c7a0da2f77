use Rattle.totals_runner.specs.Adds.{totals_head}
use Rattle.report_text.proofs.LineLemmas.{◌⨟◌, line_whole}
use Rattle.totals_runner.proofs.adds.put_head.Goals as goal

pub returns : goal.returns
unfolding totals_head
returns c =
    line_whole c.begin_line.ensures.begins
    (c.put_word.ensures.puts ⨟ c.put_named.ensures.puts ⨟ c.put_batch.ensures.puts)
    c.end_line.ensures.ends
