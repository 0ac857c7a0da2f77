use Rattle.std.proofs.Common.{arith}
use Rattle.batch_rows.proofs.CountLemmas.{few_places}
use Rattle.batch_rows.proofs.crowds.places.Goals as goal

pub returns-clause-small : goal.returns-clause-small
returns-clause-small c = omega (arith, few_places c.args.depth c.requires)
