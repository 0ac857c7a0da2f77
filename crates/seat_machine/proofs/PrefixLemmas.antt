-- A prefix from depth 64 on.
use Rattle.std.proofs.Common.{◌-◌}
use Rattle.hash_bits.specs.Prefix.{first_bits}
use Rattle.hash_bits.proofs.FewerBits.{first_bits-deep}

pub ruleset prefix_steps = (first_bits-deep)
