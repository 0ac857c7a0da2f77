use Rattle.report_text.proofs.LineLemmas.{◌⨟◌}
use Rattle.report_text.proofs.tail.put_place.Goals as goal

pub returns-clause-puts : goal.returns-clause-puts
returns-clause-puts c = c.put_word.ensures.puts ⨟ c.put_named.ensures.puts ⨟ c.put_word-2.ensures.puts
