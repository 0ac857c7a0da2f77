-- One pair has a key of its own.
use Rattle.std.specs.List.{IsDistinct}
use Rattle.core_steps.proofs.word_tests.a_lookup_of_a_first_pair.Goals as goal

pub open-requires-clause-distinct : goal.open-requires-clause-distinct
unfolding IsDistinct
open-requires-clause-distinct g c = (tt, tt)

pub open-requires-2-clause-distinct : goal.open-requires-2-clause-distinct
unfolding IsDistinct
open-requires-2-clause-distinct g c = (tt, tt)
