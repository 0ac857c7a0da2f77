use Rattle.std.specs.List.{IsDistinct}
use Rattle.table_uses.proofs.no_pairs.Goals as goal

pub returns-clause-distinct : goal.returns-clause-distinct
unfolding IsDistinct
returns-clause-distinct c = tt
