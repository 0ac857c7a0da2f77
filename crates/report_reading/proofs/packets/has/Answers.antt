use Rattle.std.proofs.Common.{Err}
use Rattle.std.proofs.lemmas.List.Sorted.{searched}
use Rattle.report_reading.proofs.PacketLemmas.{not_found, rise_on}
use Rattle.report_reading.proofs.packets.has.Goals as goal

pub returns-in-Err : goal.returns-in-Err
returns-in-Err c = λ rise.
    not_found c.args.packet c.args.ended.now c.in-Err.field-0
    (searched c.args.ended.now c.args.packet (Err c.in-Err.field-0) c.in-Err.ensures.position
    (rise_on c.args.ended.now rise))
