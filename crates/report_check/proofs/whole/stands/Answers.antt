use Rattle.std.proofs.Common.{Ok, Err}
use Rattle.std.proofs.lemmas.List.Sorted.{searched}
use Rattle.report_reading.proofs.PacketLemmas.{not_found}
use Rattle.report_check.proofs.WholeLemmas.{found_there}
use Rattle.report_check.proofs.whole.stands.Goals as goal

pub returns-in-Ok : goal.returns-in-Ok
returns-in-Ok c = λ rises.
    found_there c.args.packet c.args.sorted.now c.in-Ok.field-0
    (searched c.args.sorted.now c.args.packet (Ok c.in-Ok.field-0) c.in-Ok.ensures.position
    (λ i j before inside. rises i j 0 before inside))

pub returns-in-Err : goal.returns-in-Err
returns-in-Err c = λ rises.
    not_found c.args.packet c.args.sorted.now c.in-Err.field-0
    (searched c.args.sorted.now c.args.packet (Err c.in-Err.field-0) c.in-Err.ensures.position
    (λ i j before inside. rises i j 0 before inside))
