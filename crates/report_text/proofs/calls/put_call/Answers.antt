use Rattle.report_text.specs.Report.{call_words}
use Rattle.report_text.proofs.LineLemmas.{◌⨟◌}
use Rattle.report_text.proofs.calls.put_call.Goals as goal

pub returns-clause-puts : goal.returns-clause-puts
unfolding call_words
returns-clause-puts c =
    c.put_number.ensures.puts ⨟ c.put_named.ensures.puts
    ⨟ rw c.verb_word.ensures.word at c.put_word.ensures.puts
    ⨟ rw c.key.ensures at c.put_key.ensures.puts ⨟ c.put_amount.ensures.puts
