use Rattle.std.proofs.Common.{◌≡◌, take}
use Rattle.play_mode.specs.Playing.{refusals_in}
use Rattle.play_mode.proofs.playing.refusals_in.Given as goal

-- those so far
abbrev pub invariant-loop-ended : goal.invariant-loop-ended
invariant-loop-ended l = l.refusals ≡ refusals_in (take l.ended-index l.outcomes)
