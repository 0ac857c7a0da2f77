use Rattle.flow_meter.proofs.ApartLemmas.{sorted_are_in_order}
use Rattle.flow_meter.proofs.laws.order_laws.Goals as goal

pub returns : goal.returns
returns c = sorted_are_in_order
