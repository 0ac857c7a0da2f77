use Rattle.shared_table.proofs.ClosedOrders.{closed_is_of_a_run}
use Rattle.shared_table.proofs.laws.order_laws.Goals as goal

pub returns : goal.returns
returns c = closed_is_of_a_run
