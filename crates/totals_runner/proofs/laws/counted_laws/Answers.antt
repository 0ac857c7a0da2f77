-- The laws, as proved.
use Rattle.totals_runner.proofs.AllBatches.{counted_are_right}
use Rattle.totals_runner.proofs.JobLemmas.{batches_make}
use Rattle.totals_runner.proofs.laws.counted_laws.Goals as goal

pub returns-clause-right : goal.returns-clause-right
returns-clause-right c = counted_are_right

pub returns-clause-make : goal.returns-clause-make
returns-clause-make c = batches_make
