-- So many seats are looked at.
use Rattle.exchange_calls.specs.Found.{Finding, IsFindingAll}
use Rattle.exchange_calls.proofs.ops.find_all.Given as goal

abbrev pub invariant-loop-seat : goal.invariant-loop-seat
invariant-loop-seat g l = (i : IsFindingAll (g.S.Steps.now l.fn.steps) l.fn.own.call l.fn.announced l.fn.hand) →
    Finding i.first (g.S.Steps.now l.steps) l.fn.own.call i.attempt l.fn.announced l.seat l.hand l.reply
