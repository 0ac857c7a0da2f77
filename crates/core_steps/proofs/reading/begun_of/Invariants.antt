use Rattle.std.proofs.Common.{◌≡◌, ◌++◌, drop}
use Rattle.core_steps.specs.Moments.{pending_of_all}
use Rattle.core_steps.proofs.reading.begun_of.Given as goal

abbrev pub invariant-loop-machine : goal.invariant-loop-machine
invariant-loop-machine l = l.begun.items ++ pending_of_all (drop l.machine-index l.seats) ≡ pending_of_all l.seats
