use Rattle.std.proofs.Common.{◌-◌, refl, arith}
use Rattle.flow_meter.proofs.CallLemmas.{begins}
use Rattle.flow_meter.proofs.meter.Meter.begin.Goals as goal

pub returns-clause-made : goal.returns-clause-made
returns-clause-made c =
    let free = c.in-Some.ensures.found in
    let put = c.put.ensures in
    let was = c.put.new.self in
    begins _ was (record was { left = was.left - 1 }) _ c.begun.result _ free put c.begun.ensures.begun
    c.begun.ensures.sizes refl refl (omega (arith, free.some, put.left))
