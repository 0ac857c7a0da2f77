-- The items so far are gone through, and none has the key.
use Rattle.exchange_calls.specs.Items.{HasPassed, source_of}
use Rattle.exchange_calls.proofs.looks.find_item.Given as goal

abbrev pub invariant-loop-i : goal.invariant-loop-i
invariant-loop-i g l =
    HasPassed (g.S.Steps.now l.fn.steps) (g.S.Steps.now l.steps) (source_of l.fn.source) l.fn.key l.count l.i
