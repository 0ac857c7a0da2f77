use Rattle.std.proofs.Common.{refl, ap, ◌∙◌}
use Rattle.flow_meter.specs.Held.{as_flow, KeyIsAt}
use Rattle.flow_meter.proofs.MeetLemmas.{flow_read, meets, no_key}
use Rattle.flow_meter.proofs.meter.Meter.meet.Goals as goal

pub returns-in-Some-clause-made : goal.returns-in-Some-clause-made
returns-in-Some-clause-made c =
    let old = c.args.self.now in
    let told = c.if-not-has_key.ensures in
    let there : KeyIsAt old c.args.place c.args.packet.now.key = told.there.0 refl in
    meets old _ c.args.place c.args.packet.now c.in-Some.flow c.meet.new.self c.meet.result told.within
    (flow_read old c.args.place c.index_mut.result.now told.within c.index_mut.ensures.value
    ∙ ap as_flow c.in-Some.is) there refl refl refl c.meet.ensures.sizes c.meet.ensures.met

pub returns-in-None-clause-made : goal.returns-in-None-clause-made
returns-in-None-clause-made c =
    let old = c.args.self.now in
    let told = c.if-not-has_key.ensures in
    let there : KeyIsAt old c.args.place c.args.packet.now.key = told.there.0 refl in
    absurd (no_key old c.args.place c.index_mut.result.now c.args.packet.now.key told.within
    c.index_mut.ensures.value c.in-None.is there)
