use Rattle.history_order.proofs.Reaching.{reached_is_the_order}
use Rattle.history_order.proofs.Choosing.{first_is_chosen}
use Rattle.history_order.proofs.laws.turns_reach.Goals as goal

pub returns : goal.returns
returns c = record { reached = reached_is_the_order; chosen = first_is_chosen }
