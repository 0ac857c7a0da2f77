use Rattle.exchange_laws.proofs.RestCounts.{counts_tell_rests}
use Rattle.exchange_laws.proofs.Rests.{copies_are_of_rests, rests_are_alike}
use Rattle.exchange_laws.proofs.laws.rest_laws.Goals as goal

pub returns : goal.returns
returns c = record { by_counts = counts_tell_rests; alike = rests_are_alike; copied = copies_are_of_rests }
