use Rattle.flow_laws.proofs.AskedKeys.{pairs_are_asked}
use Rattle.flow_laws.proofs.Parts.{parts_are_sessions}
use Rattle.flow_laws.proofs.laws.part_laws.Goals as goal

pub returns : goal.returns
returns c = record { sessions = parts_are_sessions; asked = pairs_are_asked }
