use Rattle.exchange_laws.proofs.Growing.{orders_grow}
use Rattle.exchange_laws.proofs.TiedRuns.{updates_are_ordered}
use Rattle.exchange_laws.proofs.laws.order_laws.Goals as goal

pub returns : goal.returns
returns c = record { grow = orders_grow; ordered = updates_are_ordered }
