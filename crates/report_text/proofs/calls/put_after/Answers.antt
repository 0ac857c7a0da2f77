use Rattle.report_text.specs.Report.{after_words}
use Rattle.report_text.proofs.LineLemmas.{◌⨟◌, puts_after_space}
use Rattle.report_text.proofs.calls.put_after.Goals as goal

pub returns-clause-puts : goal.returns-clause-puts
unfolding after_words
returns-clause-puts c =
    c.put_word.ensures.puts ⨟ puts_after_space c.put_text.ensures.appended c.put_counts.ensures.appended
