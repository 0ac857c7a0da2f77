use Rattle.exchange_laws.proofs.BoundedPeeks.{peeks_are_bounded}
use Rattle.exchange_laws.proofs.laws.try_laws.Goals as goal

pub returns : goal.returns
returns c = record { bounded = peeks_are_bounded }
