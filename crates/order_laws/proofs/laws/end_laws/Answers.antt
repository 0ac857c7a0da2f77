use Rattle.order_laws.proofs.Promised.{pairs_are_of_the_order}
use Rattle.order_laws.proofs.Depths.{depth_is_of_leaves}
use Rattle.order_laws.proofs.laws.end_laws.Goals as goal

pub returns : goal.returns
returns c = record { pairs = pairs_are_of_the_order; depth = depth_is_of_leaves }
