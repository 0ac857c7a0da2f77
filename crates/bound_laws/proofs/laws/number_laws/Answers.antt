use Rattle.bound_laws.proofs.Ends.{spent_is_used, records_are_numbered, flights_are_numbered}
use Rattle.bound_laws.proofs.laws.number_laws.Goals as goal

pub returns : goal.returns
returns c = record { spent = spent_is_used; records = records_are_numbered; flights = flights_are_numbered }
