use Rattle.report_text.proofs.LineLemmas.{◌⨟◌}
use Rattle.report_text.proofs.head.put_rule.Goals as goal

pub returns-in-Flows-clause-puts : goal.returns-in-Flows-clause-puts
returns-in-Flows-clause-puts c = rw c.in-Flows.is (c.put_word.ensures.puts ⨟ c.put_word-in-Flows.ensures.puts)
