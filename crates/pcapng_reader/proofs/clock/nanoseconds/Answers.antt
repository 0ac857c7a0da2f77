use Rattle.std.proofs.Common.{sym, arith}
use Rattle.pcapng_reader.proofs.ClockFacts.{ten_fits, ten_pos, too_fine}
use Rattle.pcapng_reader.proofs.clock.nanoseconds.Goals as goal

pub returns-then-resolution-gt-FINEST : goal.returns-then-resolution-gt-FINEST
returns-then-resolution-gt-FINEST c =
    sym (too_fine c.args.resolution c.args.ticks (omega (arith, c.if-resolution-gt-FINEST.true))
    (omega (arith, c.if-resolution-ge128.false)) (omega (arith, c.ranges.ticks.fits)))

pub pow-requires : goal.pow-requires
pow-requires c = ten_fits c.from.result (omega (arith, c.from.ensures, c.if-resolution-gt-FINEST.false))

pub nonzero_div-result : goal.nonzero_div-result
nonzero_div-result c = (let p = ten_pos c.from.result in omega (arith, p, c.pow.ensures))
