use Rattle.sim_steps.proofs.laws.steps.Goals as goal
use Rattle.sim_steps.proofs.LawProofs.{is_bounded}
use Rattle.sim_steps.proofs.Told.{are_counted}

pub returns : goal.returns
returns c = record { bounded = is_bounded; counted = are_counted }
