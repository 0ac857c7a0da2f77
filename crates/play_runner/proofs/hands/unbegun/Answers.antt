-- The sum of so few calls fits.
use Rattle.std.proofs.Common.{length, arith}
use Rattle.table_model.specs.Schedules.{Hand}
use Rattle.play_runner.proofs.Numbers.{calls_few, no_hand, sum_from, sum_past}
use Rattle.play_runner.proofs.hands.unbegun.Goals as goal

pub overflow_add-unbegun : goal.overflow_add-unbegun
overflow_add-unbegun c =
    omega (
      arith,
      c.loop-hand.invariant,
      sum_from (λ (hand : Hand). length hand.calls) c.args.hands.now c.loop-hand.hand-index no_hand
          c.loop-hand-test.true,
      calls_few c.args.hands.now c.requires.few c.requires.short,
    )

pub loop-hand-preserved : goal.loop-hand-preserved
loop-hand-preserved c =
    omega (
      arith,
      c.loop-hand.invariant,
      sum_from (λ (hand : Hand). length hand.calls) c.args.hands.now c.loop-hand.hand-index no_hand
          c.loop-hand-test.true,
    )

pub returns : goal.returns
returns c =
    omega (
      arith,
      c.loop-hand.invariant,
      sum_past (λ (hand : Hand). length hand.calls) c.args.hands.now c.loop-hand.hand-index c.loop-hand-test.false,
    )
