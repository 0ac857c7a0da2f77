use Rattle.totals_runner.specs.Adds.{add_line}
use Rattle.report_text.proofs.LineLemmas.{◌⨟◌, line_whole}
use Rattle.totals_runner.proofs.adds.put_add.Goals as goal

pub returns : goal.returns
unfolding add_line
returns c =
    line_whole c.begin_line.ensures.begins
    (c.put_number.ensures.puts ⨟ c.put_named.ensures.puts ⨟ rw c.class_word.ensures.word at c.put_word.ensures.puts
    ⨟ c.put_number-2.ensures.puts ⨟ c.put_named-2.ensures.puts ⨟ c.put_named-3.ensures.puts
    ⨟ c.put_after.ensures.puts)
    c.end_line.ensures.ends
