-- So many rows are looked at, and others are left.
use Rattle.std.proofs.Common.{◌≡◌, ◌-◌}
use Rattle.lasting_calls.specs.Sweeps.{AtHome, IsSweeping}
use Rattle.lasting_calls.proofs.sweeping.sweep.Given as goal

abbrev pub invariant-loop-i : goal.invariant-loop-i
invariant-loop-i g l = record {
  looked : (s : IsSweeping (g.S.Steps.now l.initial.steps)) →
      AtHome (g.S.Steps.now l.initial.steps) (g.S.Steps.now l.steps) s.update (4 - l.i) l.rows;
  sweeps : l.rows.sweeps ≡ l.initial.rows.sweeps;
}
