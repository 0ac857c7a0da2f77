use Rattle.std.proofs.Common.{ap}
use Rattle.table_model.specs.Setup.{seats_of}
use Rattle.table_uses.proofs.opened.Goals as goal

pub returns-in-Ok-clause-seats : goal.returns-in-Ok-clause-seats
returns-in-Ok-clause-seats c = ap seats_of c.in-Ok.ensures.setup
