-- No pairs have distinct keys.
use Rattle.std.specs.List.{IsDistinct}
use Rattle.core_steps.proofs.word_tests.is_refused.Goals as goal

pub open-requires-clause-distinct : goal.open-requires-clause-distinct
unfolding IsDistinct
open-requires-clause-distinct g c = tt
