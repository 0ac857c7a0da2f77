use Rattle.run_laws.proofs.Opened.{never_is_stuck}
use Rattle.run_laws.proofs.laws.stuck_laws.Goals as goal

pub returns : goal.returns
returns c = record { never = never_is_stuck }
