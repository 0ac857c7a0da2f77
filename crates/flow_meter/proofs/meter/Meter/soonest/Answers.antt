use Rattle.std.proofs.Common.{List, ℕ, take}
use Rattle.flow_meter.specs.Parts.{IsSoonest}
use Rattle.flow_meter.proofs.SoonestLemmas.{take_more}
use Rattle.flow_meter.proofs.meter.Meter.soonest.Goals as goal

pub loop-place-preserved : goal.loop-place-preserved
loop-place-preserved c =
    take_more (λ (l : List ℕ). IsSoonest c.args.self.now l c.sooner-found.result) c.args.places.now
    c.loop-place.place-index c.loop-place-test.true
    (c.sooner-found.ensures (take c.loop-place.place-index c.args.places.now) c.loop-place.invariant)
