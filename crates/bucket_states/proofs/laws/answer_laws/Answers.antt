use Rattle.bucket_states.proofs.LocalLemmas.{local_answers, other_parts_stay}
use Rattle.bucket_states.proofs.laws.answer_laws.Goals as goal

pub returns : goal.returns
returns c = record { alike = local_answers; others = other_parts_stay }
