use Rattle.sim_steps.proofs.laws.helping.Goals as goal
use Rattle.sim_steps.proofs.LawProofs.{is_helped, is_applied}

pub returns : goal.returns
returns c = record { helped = is_helped; applied = is_applied }
