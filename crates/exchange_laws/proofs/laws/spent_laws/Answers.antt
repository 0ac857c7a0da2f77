use Rattle.exchange_laws.proofs.Generations.{none_is_spent}
use Rattle.exchange_laws.proofs.SpentBuckets.{spent_is_found, spent_stays}
use Rattle.exchange_laws.proofs.SpentTold.{spent_is_told}
use Rattle.exchange_laws.proofs.laws.spent_laws.Goals as goal

pub returns : goal.returns
returns c = record { found = spent_is_found; stays = spent_stays; told = spent_is_told; none = none_is_spent }
