use Rattle.bound_laws.proofs.Suffice.{rows_suffice}
use Rattle.bound_laws.proofs.laws.row_laws.Goals as goal

pub returns : goal.returns
returns c = record { suffice = rows_suffice }
