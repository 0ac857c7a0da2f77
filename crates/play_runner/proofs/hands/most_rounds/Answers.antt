-- The sum of so few slots fits.
use Rattle.std.proofs.Common.{arith}
use Rattle.table_model.specs.Schedules.{most_slots}
use Rattle.play_runner.proofs.Numbers.{few_at, no_hand, rounds_few, sum_from, sum_past}
use Rattle.play_runner.proofs.hands.most_rounds.Goals as goal

pub most_slots-most-requires : goal.most_slots-most-requires
most_slots-most-requires c =
    few_at c.args.hands.now c.loop-hand.hand-index no_hand c.loop-hand-test.true c.requires.few

pub overflow_add-most : goal.overflow_add-most
overflow_add-most c =
    omega (
      arith,
      c.loop-hand.invariant,
      c.most_slots-most.ensures.exact,
      sum_from (most_slots c.args.settings.now) c.args.hands.now c.loop-hand.hand-index no_hand c.loop-hand-test.true,
      rounds_few c.args.settings.now c.args.hands.now c.requires.few c.requires.short,
    )

pub loop-hand-preserved : goal.loop-hand-preserved
loop-hand-preserved c =
    omega (
      arith,
      c.loop-hand.invariant,
      c.most_slots-most.ensures.exact,
      sum_from (most_slots c.args.settings.now) c.args.hands.now c.loop-hand.hand-index no_hand c.loop-hand-test.true,
    )

pub returns : goal.returns
returns c =
    omega (
      arith,
      c.loop-hand.invariant,
      sum_past (most_slots c.args.settings.now) c.args.hands.now c.loop-hand.hand-index c.loop-hand-test.false,
    )
