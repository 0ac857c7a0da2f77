use Rattle.exchange_laws.proofs.SeatLooks.{looks_are_of_moments}
use Rattle.exchange_laws.proofs.laws.look_laws.Goals as goal

pub returns : goal.returns
returns c = record { of_moments = looks_are_of_moments }
