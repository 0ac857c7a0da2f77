use Rattle.exchange_laws.proofs.TiedRuns.{seats_go_on}
use Rattle.exchange_laws.proofs.laws.progress_laws.Goals as goal

pub returns : goal.returns
returns c = record { go_on = seats_go_on }
