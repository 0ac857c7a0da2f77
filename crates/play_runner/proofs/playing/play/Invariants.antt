-- The segments from this one on are still to be run.
use Rattle.std.proofs.Common.{drop}
use Rattle.play_runner.proofs.Coming.{IsOnItsWay, segments_by}
use Rattle.play_runner.proofs.playing.play.Given as goal

abbrev pub invariant-loop-segment : goal.invariant-loop-segment
invariant-loop-segment l =
    IsOnItsWay l.initial.playing l.playing (segments_by (drop l.segment-index l.schedule)) (segments_by l.schedule)
