use Rattle.flow_times.proofs.KeyParts.{keys_are_apart}
use Rattle.flow_times.proofs.Parts.{classes_are_apart}
use Rattle.flow_times.proofs.laws.part_laws.Goals as goal

pub returns-clause-classes : goal.returns-clause-classes
returns-clause-classes c = classes_are_apart

pub returns-clause-keys : goal.returns-clause-keys
returns-clause-keys c = keys_are_apart
