use Rattle.order_laws.proofs.Lookups.{lookups_stand_by_their_rows, one_is_ready}
use Rattle.order_laws.proofs.laws.lookup_laws.Goals as goal

pub returns : goal.returns
returns c = record { lookups = lookups_stand_by_their_rows; one_ready = one_is_ready }
