use Rattle.std.proofs.Common.{◌≡◌, ◌++◌, take}
use Rattle.std.specs.List.{flat_map}
use Rattle.report_text.specs.Report.{outcome_line}
use Rattle.play_mode.proofs.playing.put_outcomes.Given as goal

-- the lines so far
abbrev pub invariant-loop-ended : goal.invariant-loop-ended
invariant-loop-ended l =
    l.text.items
    ≡ l.fn.text.items ++ flat_map (λ ended. outcome_line l.seats ended.0 ended.1) (take l.ended-index l.outcomes)
