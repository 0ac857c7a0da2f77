use Rattle.order_laws.proofs.Warranted.{leaves_are_warranted}
use Rattle.order_laws.proofs.laws.warrant_laws.Goals as goal

pub returns : goal.returns
returns c = record { warranted = leaves_are_warranted }
