use Rattle.flow_times.proofs.Ends.{ended_stands_first}
use Rattle.flow_times.proofs.Fronts.{fronts_are_final}
use Rattle.flow_times.proofs.Orders.{one_order}
use Rattle.flow_times.proofs.laws.end_laws.Goals as goal

pub returns-clause-first : goal.returns-clause-first
returns-clause-first c = ended_stands_first

pub returns-clause-fronts : goal.returns-clause-fronts
returns-clause-fronts c = fronts_are_final

pub returns-clause-order : goal.returns-clause-order
returns-clause-order c = one_order
