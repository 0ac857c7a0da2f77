use Rattle.flow_times.proofs.Passes.{passes_keep_a_key}
use Rattle.flow_times.proofs.Sums.{sums_of_a_key_are_kept}
use Rattle.flow_times.proofs.laws.key_laws.Goals as goal

-- src/laws.rt:26:1
pub returns-clause-same : goal.returns-clause-same
returns-clause-same c = passes_keep_a_key

-- src/laws.rt:26:1
pub returns-clause-sums : goal.returns-clause-sums
returns-clause-sums c = sums_of_a_key_are_kept
