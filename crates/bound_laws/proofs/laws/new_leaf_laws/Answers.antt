use Rattle.bound_laws.proofs.Suffice.{leaves_come_in_twos, leaves_come_once}
use Rattle.bound_laws.proofs.laws.new_leaf_laws.Goals as goal

pub returns : goal.returns
returns c = record { twos = leaves_come_in_twos; once = leaves_come_once }
