use Rattle.lasting_laws.proofs.Peeks.{peeks_are_of_moments}
use Rattle.lasting_laws.proofs.SeatLooks.{looks_are_of_moments}
use Rattle.lasting_laws.proofs.laws.peek_laws.Goals as goal

pub returns : goal.returns
returns c = record { of_moments = peeks_are_of_moments; of_seats = looks_are_of_moments }
