use Rattle.run_invariant.proofs.Frames.{asks_are_steps, stores_are_apart}
use Rattle.run_invariant.proofs.laws.frame_laws.Goals as goal

pub returns : goal.returns
returns c = record { steps = asks_are_steps; apart = stores_are_apart }
