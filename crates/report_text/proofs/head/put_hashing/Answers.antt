use Rattle.report_text.proofs.LineLemmas.{◌⨟◌}
use Rattle.report_text.proofs.head.put_hashing.Goals as goal

pub returns-in-Mix-clause-puts : goal.returns-in-Mix-clause-puts
returns-in-Mix-clause-puts c = rw c.in-Mix.is (c.put_word.ensures.puts ⨟ c.put_named.ensures.puts)

pub returns-in-Ports-clause-puts : goal.returns-in-Ports-clause-puts
returns-in-Ports-clause-puts c = rw c.in-Ports.is (c.put_word-in-Ports.ensures.puts ⨟ c.put_named-in-Ports.ensures.puts)
