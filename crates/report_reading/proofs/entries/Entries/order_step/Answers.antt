use Rattle.std.proofs.Common.{refl}
use Rattle.report_lines.specs.Lines.{order_at}
use Rattle.report_reading.proofs.StepLemmas.{bad_order, order_stepped, order_stuck}
use Rattle.report_reading.proofs.entries.Entries.order_step.Goals as goal

pub returns-in-Some : goal.returns-in-Some
returns-in-Some c = λ head entries more holds byte.
    order_stepped c.order.new.self head entries c.args.bytes.now (order_at c.args.bytes.now) c.in-Some.rest.now refl
    (rw c.in-Some.is at (c.in_ok-found.ensures head entries holds))

pub returns-in-None : goal.returns-in-None
returns-in-None c = λ head entries more holds byte.
    bad_order head entries c.args.bytes.now more holds.in_range byte
    (order_stuck c.order.new.self head entries c.args.bytes.now (order_at c.args.bytes.now) refl
    (rw c.in-None.is at (c.in_ok-found.ensures head entries holds)))
