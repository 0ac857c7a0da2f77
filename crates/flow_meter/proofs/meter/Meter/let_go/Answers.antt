use Rattle.flow_meter.proofs.CallLemmas.{lets_go}
use Rattle.flow_meter.proofs.meter.Meter.let_go.Goals as goal

pub returns-clause-made : goal.returns-clause-made
returns-clause-made c =
    lets_go _ _ _ _ _ c.in-Some.ensures.within c.in-Some.ensures.found c.put.ensures c.give_back.ensures.stays
    c.give_back.ensures.free
