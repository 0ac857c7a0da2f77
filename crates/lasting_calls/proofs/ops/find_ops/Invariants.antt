-- The ops of so many seats are found.
use Rattle.std.proofs.Common.{◌≡◌, length, take}
use Rattle.lasting_calls.specs.Updates.{HasFound, trying}
use Rattle.lasting_calls.proofs.ops.find_ops.Given as goal

abbrev pub invariant-loop-i : goal.invariant-loop-i
invariant-loop-i g l = record {
  len : length l.ops ≡ length l.fn.ops;
  found : HasFound (g.S.Steps.now l.fn.steps) (g.S.Steps.now l.steps) l.fn.own
      (trying l.fn.desk.settings l.fn.attempt) (take l.i l.ops);
}
