-- Each seat so far has its place.
use Rattle.std.proofs.Common.{◌≡◌, Some, map, take}
use Rattle.std.specs.List.{range_with_len}
use Rattle.command_line.specs.Plays.{all_of, stop_for}
use Rattle.command_line.proofs.words.plays.stops_for.Given as goal

abbrev pub invariant-loop-seat : goal.invariant-loop-seat
invariant-loop-seat l =
    all_of (map (stop_for l.fn.stops) (take l.seat (range_with_len 0 l.fn.seats))) ≡ Some l.steps.items
