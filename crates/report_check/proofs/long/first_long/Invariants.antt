use Rattle.std.proofs.Common.{take}
use Rattle.std.specs.Prelude.{All}
use Rattle.report_told.specs.Points.{IsShortEnough}
use Rattle.report_check.proofs.long.first_long.Given as goal

abbrev pub invariant-loop-call : goal.invariant-loop-call
invariant-loop-call l = All (IsShortEnough l.bound) (take l.call-index l.calls)
