-- The words so far are loaded: by fours, and then the rest.
use Rattle.std.proofs.Common.{◌≡◌, ◌+◌, ◌*◌, ◌≤◌, length, take}
use Rattle.exchange_calls.specs.Going.{goes_by}
use Rattle.exchange_calls.proofs.runs.load_run.Given as goal

abbrev pub invariant-loop-fours : goal.invariant-loop-fours
invariant-loop-fours g l = record {
  at : l.i ≡ 4 * l._fours;
  len : length l.row ≡ length l.fn.row;
  goes : g.S.Steps.now l.steps ≡ goes_by (g.S.Steps.now l.fn.steps) (take l.i l.row);
}

abbrev pub invariant-loop-one : goal.invariant-loop-one
invariant-loop-one g l = record {
  at : l.i ≡ 4 * l._fours + l._one;
  room : 4 * l._fours + 4 ≤ length l.fn.row;
  len : length l.row ≡ length l.fn.row;
  goes : g.S.Steps.now l.steps ≡ goes_by (g.S.Steps.now l.fn.steps) (take l.i l.row);
}

abbrev pub invariant-loop-rest : goal.invariant-loop-rest
invariant-loop-rest g l = record {
  at : l.i ≡ l._rest;
  len : length l.row ≡ length l.fn.row;
  goes : g.S.Steps.now l.steps ≡ goes_by (g.S.Steps.now l.fn.steps) (take l.i l.row);
}
