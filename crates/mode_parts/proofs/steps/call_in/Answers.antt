use Rattle.std.proofs.Common.{◌≡◌, false, true}
use Rattle.mode_parts.proofs.steps.call_in.Goals as goal

pub returns-in-None-clause-made : goal.returns-in-None-clause-made
returns-in-None-clause-made c = λ heads has. let none : false ≡ true = c.in-None.ensures.none heads has in cc
