use Rattle.std.proofs.Common.{◌≡◌, map, take}
use Rattle.play_runner.specs.Played.{as_segment}
use Rattle.play_mode.specs.Playing.{segment_in}
use Rattle.play_mode.proofs.playing.schedule_in.Given as goal

-- the segments so far
abbrev pub invariant-loop-segment : goal.invariant-loop-segment
invariant-loop-segment l = map as_segment l.segments.items ≡ map segment_in (take l.segment-index l.told)
