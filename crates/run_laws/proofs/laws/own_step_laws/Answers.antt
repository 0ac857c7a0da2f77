use Rattle.run_laws.proofs.OpRows.{op_rows_are_right}
use Rattle.run_laws.proofs.Within.{steps_are_within, stores_are_own}
use Rattle.run_laws.proofs.laws.own_step_laws.Goals as goal

pub returns : goal.returns
returns c = record { within = steps_are_within; own = stores_are_own; ops = op_rows_are_right }
