use Rattle.flow_meter.proofs.PassLemmas.{PassedSo}
use Rattle.flow_meter.proofs.meter.Meter.take_out.Given as goal

abbrev pub invariant-loop-place : goal.invariant-loop-place
invariant-loop-place l = PassedSo l.now l.fn.self l.self l.place l.fn.ended.items l.ended.items
