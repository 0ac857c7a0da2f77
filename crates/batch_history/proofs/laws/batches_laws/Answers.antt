use Rattle.batch_history.proofs.OneOrder.{batches_are_one_order, calls_are_numbered_on}
use Rattle.batch_history.proofs.laws.batches_laws.Goals as goal

pub returns : goal.returns
returns c = record { one_order = batches_are_one_order; numbered = calls_are_numbered_on }
