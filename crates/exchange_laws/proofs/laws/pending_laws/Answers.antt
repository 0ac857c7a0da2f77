use Rattle.exchange_laws.proofs.PendingRuns.{pending_is_always_counted}
use Rattle.exchange_laws.proofs.laws.pending_laws.Goals as goal

pub returns : goal.returns
returns c = record { counted = pending_is_always_counted }
