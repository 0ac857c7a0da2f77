use Rattle.exchange_laws.proofs.Bounded.{steps_are_bounded}
use Rattle.exchange_laws.proofs.CallsWithin.{calls_stay_within}
use Rattle.exchange_laws.proofs.laws.bound_laws.Goals as goal

pub returns : goal.returns
returns c = record { bounded = steps_are_bounded; under_way = calls_stay_within }
