-- The seat is stopped by one of the stops so far, or by none.
use Rattle.std.proofs.Common.{◌≡◌, Some, take}
use Rattle.command_line.specs.Plays.{at_most_one}
use Rattle.command_line.proofs.PlayLemmas.{own}
use Rattle.command_line.proofs.words.plays.stop_for.Given as goal

abbrev pub invariant-loop-stop : goal.invariant-loop-stop
invariant-loop-stop l = at_most_one (own l.fn.seat (take l.stop-index l.stops)) ≡ Some l.found
