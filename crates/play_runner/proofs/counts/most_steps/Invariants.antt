use Rattle.std.proofs.Common.{◌≡◌, drop, fold, max}
use Rattle.play_runner.specs.Played.{most_steps_in, steps_of}
use Rattle.play_runner.proofs.counts.most_steps.Given as goal

abbrev pub invariant-loop-ended : goal.invariant-loop-ended
invariant-loop-ended l =
    fold (λ most ended. max most (steps_of l.update ended.1)) l.most (drop l.ended-index l.outcomes)
    ≡ most_steps_in l.update l.outcomes
