use Rattle.std.proofs.Common.{◌≡◌, ◌++◌, take}
use Rattle.std.specs.List.{flat_map}
use Rattle.report_text.specs.Report.{pending_line}
use Rattle.play_mode.proofs.playing.put_pending.Given as goal

-- the lines so far
abbrev pub invariant-loop-begun : goal.invariant-loop-begun
invariant-loop-begun l =
    l.text.items ≡ l.fn.text.items ++ flat_map (pending_line l.seats) (take l.begun-index l.pending)
