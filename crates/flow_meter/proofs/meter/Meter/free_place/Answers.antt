use Rattle.std.proofs.Common.{arith}
use Rattle.flow_meter.proofs.CallLemmas.{stays_inside}
use Rattle.flow_meter.proofs.meter.Meter.free_place.Goals as goal

pub returns-then-place-len-clause-none : goal.returns-then-place-len-clause-none
returns-then-place-len-clause-none c =
    stays_inside c.args.self.now c.index-place.result.now (omega arith) (omega arith) c.index-place.ensures
    (omega arith)
