use Rattle.std.proofs.Common.{append_assoc, rules}
use Rattle.report_text.proofs.LineLemmas.{spaced_word}
use Rattle.report_text.proofs.pieces.put_word.Goals as goal

pub returns-clause-puts : goal.returns-clause-puts
returns-clause-puts c = record { appended = rw (spaced_word c.args.word.now) (search (rules, append_assoc)) }
