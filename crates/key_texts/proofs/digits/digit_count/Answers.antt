use Rattle.std.proofs.Common.{arith}
use Rattle.itoa.proofs.Decimal.{length_four}
use Rattle.key_texts.proofs.digits.digit_count.Goals as goal

pub returns-then-number-lt100000000 : goal.returns-then-number-lt100000000
returns-then-number-lt100000000 c =
    omega (arith, length_four c.args.number c.if-number-lt10000.false (omega arith))
