use Rattle.flow_laws.proofs.FlowOrders.{flows_have_one_order}
use Rattle.flow_laws.proofs.laws.flow_order_laws.Goals as goal

pub returns : goal.returns
returns c = flows_have_one_order
