use Rattle.report_text.proofs.LineLemmas.{◌⨟◌}
use Rattle.report_text.proofs.pieces.put_named.Goals as goal

pub returns-clause-puts : goal.returns-clause-puts
returns-clause-puts g c = c.put_word.ensures.puts ⨟ c.put_number.ensures.puts
