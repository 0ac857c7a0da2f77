use Rattle.std.proofs.Common.{append_assoc, rules}
use Rattle.report_text.proofs.LineLemmas.{puts_after_space}
use Rattle.report_text.proofs.tail.put_version.Goals as goal

pub returns-clause-puts : goal.returns-clause-puts
returns-clause-puts c = puts_after_space c.put_text.ensures.appended (search (rules, append_assoc))
