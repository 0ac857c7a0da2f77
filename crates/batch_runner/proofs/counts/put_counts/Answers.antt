use Rattle.std.proofs.Common.{◌<◌, length, arith}
use Rattle.batch_history.proofs.AddedCounts.{with_next}
use Rattle.batch_runner.proofs.Sums.{next_fits}
use Rattle.batch_runner.proofs.counts.put_counts.Goals as goal

pub overflow_add-sums : goal.overflow_add-sums
overflow_add-sums c =
    let inside : c.loop-seat.seat < length c.args.sums.now =
    omega (arith, c.loop-seat-test.true, c.requires.seats, c.told-sums) in
    omega (
      arith,
      next_fits c.args.sums.now c.args.counts.now c.loop-seat.sums c.loop-seat.seat c.loop-seat.invariant inside
          c.loop-seat-test.true c.requires.before c.requires.few,
    )

pub loop-seat-preserved : goal.loop-seat-preserved
loop-seat-preserved c =
    let inside : c.loop-seat.seat < length c.args.sums.now =
    omega (arith, c.loop-seat-test.true, c.requires.seats, c.told-sums) in
    with_next c.args.sums.now c.args.counts.now c.loop-seat.sums c.loop-seat.seat c.loop-seat.invariant inside
    c.loop-seat-test.true
