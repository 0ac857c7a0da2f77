use Rattle.std.proofs.Common.{◌/◌, arith}
use Rattle.itoa.proofs.Decimal.{length_four}
use Rattle.key_texts.proofs.NumberLemmas.{length_eight_more}
use Rattle.key_texts.proofs.digits.long_count.Goals as goal

pub returns-then-upper-lt10000 : goal.returns-then-upper-lt10000
returns-then-upper-lt10000 c = omega (arith, length_eight_more c.args.number c.requires (omega arith))

pub returns-then-upper-lt100000000 : goal.returns-then-upper-lt100000000
returns-then-upper-lt100000000 c =
    omega (
      arith,
      length_eight_more c.args.number c.requires (omega arith),
      length_four (c.args.number / 100000000) (omega arith) (omega arith),
    )

pub returns-else-upper-lt100000000 : goal.returns-else-upper-lt100000000
returns-else-upper-lt100000000 c =
    omega (
      arith,
      length_eight_more c.args.number c.requires (omega arith),
      length_eight_more (c.args.number / 100000000) (omega arith) (omega arith),
    )
