use Rattle.bucket_states.proofs.WalkLemmas.{same_prefix_after, frozen_stays}
use Rattle.bucket_states.proofs.GoodLemmas.{stays_good, frozen_is_full}
use Rattle.bucket_states.proofs.ValueLemmas.{stays_small}
use Rattle.bucket_states.proofs.laws.kept_laws.Goals as goal

pub returns : goal.returns
returns c = record {
  prefix = same_prefix_after;
  frozen = frozen_stays;
  good = stays_good;
  full = frozen_is_full;
  small = stays_small;
}
