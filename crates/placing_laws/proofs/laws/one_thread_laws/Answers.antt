use Rattle.placing_laws.proofs.AnswerLemmas.{answers_as_one_thread}
use Rattle.placing_laws.proofs.laws.one_thread_laws.Goals as goal

pub returns : goal.returns
returns c = record { answers = answers_as_one_thread }
