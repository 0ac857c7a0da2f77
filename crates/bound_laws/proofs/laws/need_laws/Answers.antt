use Rattle.bound_laws.proofs.Batches.{few_are_published, batch_rows_suffice}
use Rattle.bound_laws.proofs.laws.need_laws.Goals as goal

pub returns : goal.returns
returns c = record { few = few_are_published; suffice = batch_rows_suffice }
