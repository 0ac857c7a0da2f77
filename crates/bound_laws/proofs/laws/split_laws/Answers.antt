use Rattle.bound_laws.proofs.SplitCounts.{splits_are_few}
use Rattle.bound_laws.proofs.laws.split_laws.Goals as goal

pub returns : goal.returns
returns c = record { few = splits_are_few }
