use Rattle.std.proofs.Common.{refl, arith}
use Rattle.flow_workers.proofs.SeatCalls.{is_counted, made_one, never_spent}
use Rattle.flow_workers.proofs.workers.make_call.Goals as goal

pub lookup-requires-clause-late : goal.lookup-requires-clause-late
lookup-requires-clause-late c =
    let counted = is_counted c.args.on.now c.args.own.now 1 c.requires.can in
    omega (arith, counted.time, c.requires.can.askings)

pub unreachable-requires : goal.unreachable-requires
unreachable-requires c =
    never_spent c.args.on.now c.args.own.now c.requires.can c.in-Err.field-0 _ refl c.in-Err.ensures.updates
    c.in-Err.ensures.asked

pub returns-in-Ok : goal.returns-in-Ok
returns-in-Ok c =
    made_one c.args.own.now c.update.new.self c.args.call.now c.in-Ok.reply c.update.ensures.same
    (c.in-Ok.ensures.answered c.in-Ok.reply refl)
