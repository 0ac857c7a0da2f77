use Rattle.std.proofs.Common.{take}
use Rattle.flow_meter.specs.Parts.{IsSoonest}
use Rattle.flow_meter.proofs.meter.Meter.soonest.Given as goal

abbrev pub invariant-loop-place : goal.invariant-loop-place
invariant-loop-place l = IsSoonest l.self (take l.place-index l.places) l.found
