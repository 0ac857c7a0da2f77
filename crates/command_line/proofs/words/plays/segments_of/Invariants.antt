-- Each part so far is a segment.
use Rattle.std.proofs.Common.{◌≡◌, Some, map, take}
use Rattle.command_line.specs.Plays.{all_of, segment_of}
use Rattle.command_line.proofs.words.plays.segments_of.Given as goal

abbrev pub invariant-loop-part : goal.invariant-loop-part
invariant-loop-part l =
    all_of (map (λ x. segment_of l.fn.seats x.now) (take l.part-index l.parts)) ≡ Some l.segments.items
