-- No pairs have distinct keys.
use Rattle.std.specs.List.{IsDistinct}
use Rattle.core_steps.proofs.tests.openings.no_pairs.Goals as goal

pub returns-clause-distinct : goal.returns-clause-distinct
unfolding IsDistinct
returns-clause-distinct c = tt
