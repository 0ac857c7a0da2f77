use Rattle.report_text.proofs.LineLemmas.{puts_after_space}
use Rattle.report_text.proofs.pieces.put_key.Goals as goal

pub returns-clause-puts : goal.returns-clause-puts
returns-clause-puts c = puts_after_space c.put_text.ensures.appended c.put_key.ensures.appended
