use Rattle.seat_calls.specs.Items.{HasLooked}
use Rattle.seat_calls.proofs.looking.find_item.Given as goal

abbrev pub invariant-loop-i : goal.invariant-loop-i
invariant-loop-i g l = HasLooked (g.S.Steps.now l.initial.steps)
    (g.S.Steps.now l.steps) l.fn.row l.fn.count l.fn.key l.i l.found
