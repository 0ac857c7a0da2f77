use Rattle.batch_runner.proofs.Rights.{served_are_right}
use Rattle.batch_runner.proofs.laws.served_laws.Goals as goal

pub returns : goal.returns
returns c = record { right = served_are_right c.batches_laws.ensures.one_order }
