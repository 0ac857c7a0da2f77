use Rattle.bucket_states.proofs.WalkLemmas.{only_announced, covers, does_something}
use Rattle.bucket_states.proofs.laws.taken_laws.Goals as goal

pub returns : goal.returns
returns c = record { only_announced = only_announced; covers = covers; does_something = does_something }
