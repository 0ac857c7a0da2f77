use Rattle.std.proofs.Common.{◌≡◌, [], map, replicate, take}
use Rattle.flows_runner.proofs.pile.FlowPilePile.clear.Given as goal

abbrev pub invariant-loop-share : goal.invariant-loop-share
invariant-loop-share l = map (λ share. share.items) (take l.share-index l.share-items) ≡ replicate l.share-index []
