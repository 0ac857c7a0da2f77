use Rattle.flow_laws.proofs.ClassOrders.{classes_have_turns}
use Rattle.flow_laws.proofs.laws.class_order_laws.Goals as goal

pub returns : goal.returns
returns c = classes_have_turns
