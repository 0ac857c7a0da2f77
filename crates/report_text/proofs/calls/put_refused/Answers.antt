use Rattle.std.proofs.Common.{ℕ}
use Rattle.report_text.specs.Report.{full_words, outcome_line}
use Rattle.report_text.proofs.LineLemmas.{◌⨟◌, line_whole}
use Rattle.report_text.proofs.calls.put_refused.Goals as goal

pub returns : goal.returns
unfolding outcome_line full_words
returns c =
    λ (seats : ℕ).
    line_whole c.begin_line.ensures.begins
    (c.put_call.ensures.puts ⨟ c.put_word.ensures.puts
    ⨟ rw c.short_word.ensures.word at c.put_word-2.ensures.puts
    ⨟ c.put_number.ensures.puts ⨟ c.put_number-2.ensures.puts)
    c.end_line.ensures.ends
