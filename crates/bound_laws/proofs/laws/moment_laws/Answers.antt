use Rattle.bound_laws.proofs.Moments.{idle_moments, begun_are_answered, inserts_are_of_calls}
use Rattle.bound_laws.proofs.laws.moment_laws.Goals as goal

pub returns : goal.returns
returns c = record { idle = idle_moments; begun = begun_are_answered; inserts = inserts_are_of_calls }
