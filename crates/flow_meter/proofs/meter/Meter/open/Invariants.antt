use Rattle.flow_meter.proofs.OpenLemmas.{IsOpening}
use Rattle.flow_meter.proofs.meter.Meter.open.Given as goal

abbrev pub invariant-loop-place : goal.invariant-loop-place
invariant-loop-place l = IsOpening l.flows.items l.free.items l.place
