use Rattle.flow_times.proofs.AllSums.{sums_are_kept}
use Rattle.flow_times.proofs.Sweeps.{passes_do_not_matter}
use Rattle.flow_times.proofs.laws.pass_laws.Goals as goal

pub returns-clause-same : goal.returns-clause-same
returns-clause-same c = passes_do_not_matter

pub returns-clause-sums : goal.returns-clause-sums
returns-clause-sums c = sums_are_kept
