use Rattle.report_text.specs.Report.{head_line}
use Rattle.report_text.proofs.LineLemmas.{◌⨟◌, line_whole}
use Rattle.report_text.proofs.head.put_head.Goals as goal

pub returns : goal.returns
unfolding head_line
returns c =
    line_whole c.begin_line.ensures.begins
    (rw c.mode_word.ensures.word at c.put_word.ensures.puts
    ⨟ c.put_named.ensures.puts ⨟ c.put_named-2.ensures.puts ⨟ c.put_named-3.ensures.puts ⨟ c.put_named-4.ensures.puts
    ⨟ c.put_word-2.ensures.puts ⨟ c.put_hashing.ensures.puts ⨟ c.put_word-3.ensures.puts
    ⨟ rw c.share_word.ensures.word at c.put_word-4.ensures.puts ⨟ c.put_rule.ensures.puts
    ⨟ c.put_batch.ensures.puts)
    c.end_line.ensures.ends
