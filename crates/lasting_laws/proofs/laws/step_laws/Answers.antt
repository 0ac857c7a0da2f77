use Rattle.lasting_laws.proofs.Bounded.{steps_are_bounded}
use Rattle.lasting_laws.proofs.Ordered.{seats_go_on}
use Rattle.lasting_laws.proofs.laws.step_laws.Goals as goal

pub returns : goal.returns
returns c = record { bounded = steps_are_bounded; go_on = seats_go_on }
