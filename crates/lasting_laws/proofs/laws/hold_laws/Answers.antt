use Rattle.lasting_laws.proofs.HeldKept.{held_rows_are_kept}
use Rattle.lasting_laws.proofs.laws.hold_laws.Goals as goal

pub returns : goal.returns
returns c = record { kept = held_rows_are_kept }
