use Rattle.lasting_laws.proofs.Ordered.{updates_are_ordered}
use Rattle.lasting_laws.proofs.laws.ordered_laws.Goals as goal

pub returns : goal.returns
returns c = record { ordered = updates_are_ordered }
