use Rattle.command_line.proofs.WordsLemmas.{reads_answered, reads_refused}
use Rattle.command_line.proofs.words.read_words.Goals as goal

pub returns-in-Ok-plan_of-clause-answers : goal.returns-in-Ok-plan_of-clause-answers
returns-in-Ok-plan_of-clause-answers c =
    reads_answered _ _ c.ok_or.result c.in-Ok.ensures.taken c.in-Ok.ensures.values _ c.in-Ok-plan_of.ensures.plan
    c.ok_or.ensures.value

pub returns-clause-answers : goal.returns-clause-answers
returns-clause-answers c = reads_refused _ _ c.in-Err.ensures.refused
