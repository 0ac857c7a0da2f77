use Rattle.lasting_laws.proofs.Counts.{counts_are_small}
use Rattle.lasting_laws.proofs.laws.count_laws.Goals as goal

pub returns : goal.returns
returns c = record { small = counts_are_small }
