use Rattle.std.proofs.Common.{◌≡◌, map, take, vec_len}
use Rattle.totals_runner.proofs.batch.counts_of.Given as goal

abbrev pub invariant-loop-share : goal.invariant-loop-share
invariant-loop-share l = l.counts.items ≡ map (λ share. vec_len share) (take l.share-index l.shares)
