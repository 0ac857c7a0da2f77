use Rattle.std.proofs.Common.{arith}
use Rattle.key_texts.proofs.NumberLemmas.{length_1, length_2, length_3, length_4}
use Rattle.key_texts.proofs.digits.short_count.Goals as goal

pub returns-then-number-lt10-clause-count : goal.returns-then-number-lt10-clause-count
returns-then-number-lt10-clause-count c =
    omega (arith, length_1 c.args.number c.if-number-lt10.true)

pub returns-else-number-lt10-clause-count : goal.returns-else-number-lt10-clause-count
returns-else-number-lt10-clause-count c =
    omega (arith, length_2 c.args.number c.if-number-lt10.false c.if-number-lt100.true)

pub returns-then-number-lt1000-clause-count : goal.returns-then-number-lt1000-clause-count
returns-then-number-lt1000-clause-count c =
    omega (arith, length_3 c.args.number c.if-number-lt100.false c.if-number-lt1000.true)

pub returns-else-number-lt1000-clause-count : goal.returns-else-number-lt1000-clause-count
returns-else-number-lt1000-clause-count c =
    omega (arith, length_4 c.args.number c.if-number-lt1000.false c.requires)
