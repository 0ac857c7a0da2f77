use Rattle.lasting_laws.proofs.PoolsOpen.{buckets_are_apart, none_is_refused}
use Rattle.lasting_laws.proofs.laws.pool_laws.Goals as goal

pub returns : goal.returns
returns c = record { none_refused = none_is_refused; apart = buckets_are_apart }
