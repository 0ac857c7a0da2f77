use Rattle.flow_meter.proofs.RunLemmas.{begins_so, finishes_so, passes_so, takes_so}
use Rattle.flow_meter.proofs.laws.meter_laws.Goals as goal

pub returns-clause-begins : goal.returns-clause-begins
returns-clause-begins c = begins_so

pub returns-clause-takes : goal.returns-clause-takes
returns-clause-takes c = takes_so

pub returns-clause-passes : goal.returns-clause-passes
returns-clause-passes c = passes_so

pub returns-clause-finishes : goal.returns-clause-finishes
returns-clause-finishes c = finishes_so
