-- Each part so far is a stop.
use Rattle.std.proofs.Common.{◌≡◌, Some, map, take}
use Rattle.command_line.specs.Plays.{all_of, stop_of}
use Rattle.command_line.proofs.words.plays.all_stops.Given as goal

abbrev pub invariant-loop-part : goal.invariant-loop-part
invariant-loop-part l =
    all_of (map (λ x. stop_of l.fn.seats x.now) (take l.part-index l.parts)) ≡ Some l.stops.items
