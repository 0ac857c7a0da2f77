use Rattle.totals_runner.specs.Adds.{total_line}
use Rattle.report_text.proofs.LineLemmas.{◌⨟◌, line_whole}
use Rattle.totals_runner.proofs.adds.put_total.Goals as goal

pub returns-clause-appended : goal.returns-clause-appended
unfolding total_line
returns-clause-appended c =
    line_whole c.begin_line.ensures.begins
    (rw c.class_word.ensures.word at c.put_word.ensures.puts ⨟ c.put_number.ensures.puts ⨟ c.put_number-2.ensures.puts)
    c.end_line.ensures.ends
