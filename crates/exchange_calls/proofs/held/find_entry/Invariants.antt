-- So many entries are gone past, and there is a further step.
use Rattle.std.proofs.Common.{◌≡◌, ◌+◌, ◌*◌, ◌-◌}
use Rattle.exchange_model.specs.Goes.{next_entry}
use Rattle.exchange_calls.specs.Going.{IsOpen}
use Rattle.exchange_calls.specs.Hands.{making}
use Rattle.exchange_calls.proofs.held.find_entry.Given as goal

abbrev pub invariant-loop-i : goal.invariant-loop-i
invariant-loop-i g l = record {
  goes : g.S.Steps.now l.steps ≡ making (g.S.Steps.now l.fn.steps) l.fn.own.call
      (next_entry l.fn.row (1 + 7 * l.count + 2 * l.i) (l.entries - l.i));
  open_ : IsOpen (g.S.Steps.now l.steps).now.stand;
}
