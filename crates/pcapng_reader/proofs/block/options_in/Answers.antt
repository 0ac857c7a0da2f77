use Rattle.std.proofs.Common.{arith}
use Rattle.pcapng_reader.proofs.ClockFacts.{options_are}
use Rattle.pcapng_reader.proofs.block.options_in.Goals as goal

pub returns : goal.returns
returns c =
    options_are c.args.size c.min-end.result c.min-2.result c.args.bytes.now
    (omega (arith, c.min-end.ensures, c.min.ensures, c.saturating_sub.ensures)) c.min-2.ensures
