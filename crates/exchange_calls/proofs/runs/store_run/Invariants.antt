-- The words so far are stored: by fours, and then the rest.
use Rattle.std.proofs.Common.{◌≡◌, ◌+◌, ◌*◌, ◌≤◌, length}
use Rattle.std.specs.Prelude.{replicate}
use Rattle.exchange_calls.specs.Going.{goes_by}
use Rattle.exchange_calls.proofs.runs.store_run.Given as goal

abbrev pub invariant-loop-fours : goal.invariant-loop-fours
invariant-loop-fours g l = record {
  at : l.i ≡ 4 * l._fours;
  goes : g.S.Steps.now l.steps ≡ goes_by (g.S.Steps.now l.fn.steps) (replicate l.i 0);
}

abbrev pub invariant-loop-one : goal.invariant-loop-one
invariant-loop-one g l = record {
  at : l.i ≡ 4 * l._fours + l._one;
  room : 4 * l._fours + 4 ≤ length l.row;
  goes : g.S.Steps.now l.steps ≡ goes_by (g.S.Steps.now l.fn.steps) (replicate l.i 0);
}

abbrev pub invariant-loop-rest : goal.invariant-loop-rest
invariant-loop-rest g l = record {
  at : l.i ≡ l._rest;
  goes : g.S.Steps.now l.steps ≡ goes_by (g.S.Steps.now l.fn.steps) (replicate l.i 0);
}
