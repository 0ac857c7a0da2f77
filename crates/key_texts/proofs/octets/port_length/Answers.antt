use Rattle.std.proofs.Common.{arith}
use Rattle.std.proofs.lemmas.Fmt.{length-decimal-le}
use Rattle.key_texts.proofs.octets.port_length.Goals as goal

pub returns-clause-few : goal.returns-clause-few
returns-clause-few c =
    omega (
      arith,
      c.digit_count.ensures,
      length-decimal-le 5 c.from.result (omega arith) (omega (arith, c.from.ensures, c.ranges.port.fits))
          (omega (arith, c.from.ensures, c.ranges.port.fits)),
    )
