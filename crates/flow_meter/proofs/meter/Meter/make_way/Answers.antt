use Rattle.flow_meter.proofs.SoonestLemmas.{makes}
use Rattle.flow_meter.proofs.meter.Meter.make_way.Goals as goal

pub returns-clause-made : goal.returns-clause-made
returns-clause-made c =
    makes c.args.self.now c.put.new.self c.args.packet.now c.args.places.now c.in-Some.place c.in-Some.flow
    c.begun.result c.make_way-ended.result c.in-Some.ensures c.put.ensures c.begun.ensures.begun
    c.begun.ensures.sizes c.make_way-ended.ensures
