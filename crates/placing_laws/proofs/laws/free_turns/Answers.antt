use Rattle.table_model.specs.Histories.{closed}
use Rattle.placing_laws.proofs.Turned.{turns_do_not_matter}
use Rattle.placing_laws.proofs.laws.free_turns.Goals as goal

pub returns : goal.returns
returns c =
    record { same_order = λ setup events placings run. turns_do_not_matter setup (closed setup events) placings }
