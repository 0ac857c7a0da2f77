use Rattle.std.proofs.Common.{◌≡◌, take}
use Rattle.batch_history.specs.Batches.{with_counts}
use Rattle.batch_runner.proofs.counts.put_counts.Given as goal

abbrev pub invariant-loop-seat : goal.invariant-loop-seat
invariant-loop-seat l = l.sums ≡ with_counts l.fn.sums (take l.seat l.counts)
