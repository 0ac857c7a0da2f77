use Rattle.std.proofs.Common.{◌≡◌, map, take}
use Rattle.totals_runner.specs.Frames.{shares_in}
use Rattle.totals_runner.proofs.dealing.deal.Given as goal

abbrev pub invariant-loop-frame : goal.invariant-loop-frame
invariant-loop-frame l = map (λ share. share.items) l.shares.items ≡ shares_in l.seats (take l.frame-index l.frames)
