use Rattle.std.proofs.Common.{arith}
use Rattle.flowdir_c.proofs.LastingLemmas.{few_places}
use Rattle.flowdir_c.proofs.fewer.prefixes.Goals as goal

pub returns-clause-few : goal.returns-clause-few
returns-clause-few c = omega (arith, few_places c.args.depth c.requires)
