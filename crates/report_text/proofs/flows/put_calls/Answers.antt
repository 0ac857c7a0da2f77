use Rattle.report_text.proofs.LineLemmas.{◌⨟◌}
use Rattle.report_text.proofs.flows.put_calls.Goals as goal

pub returns-in-Sessions-clause-puts : goal.returns-in-Sessions-clause-puts
returns-in-Sessions-clause-puts c = rw c.in-Sessions.is (c.put_word.ensures.puts ⨟ c.put_word-in-Sessions.ensures.puts)
