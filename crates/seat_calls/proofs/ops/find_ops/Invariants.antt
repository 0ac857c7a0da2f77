use Rattle.std.proofs.Common.{◌≡◌, ◌+◌, ◌≤◌, ◌*◌, length, take}
use Rattle.step_counts.specs.declared.TheConstants.{OP_WORDS}
use Rattle.seat_calls.specs.Found.{HasFound}
use Rattle.seat_calls.proofs.ops.find_ops.Given as goal

abbrev pub invariant-loop-i : goal.invariant-loop-i
invariant-loop-i g l = record {
  len : length l.ops ≡ length l.initial.ops;
  found : HasFound (g.S.Steps.now l.initial.steps) (g.S.Steps.now l.steps) (g.A.Trying.round l.fn.attempt)
      (g.A.Trying.attempt l.fn.attempt (g.S.Steps.now l.initial.steps).setup) (take l.i l.ops) l.spent;
  few : l.spent ≤ (1 + OP_WORDS) * l.i;
}
