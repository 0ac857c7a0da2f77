-- So many tries were disturbed.
use Rattle.std.proofs.Common.{◌≡◌, ◌-◌}
use Rattle.exchange_model.specs.Steps.{OfKey}
use Rattle.exchange_model.specs.Goes.{glance_lost}
use Rattle.exchange_calls.specs.Items.{looking}
use Rattle.exchange_calls.proofs.lookups.peek.Given as goal

abbrev pub invariant-loop-i : goal.invariant-loop-i
invariant-loop-i g l =
    g.S.Steps.now l.steps ≡ looking (g.S.Steps.now l.initial.steps) (OfKey l.fn.key) (glance_lost (l.tries - l.i))
