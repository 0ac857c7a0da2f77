use Rattle.std.proofs.Common.{ℕ, ◌^◌, ◌<◌}
use Rattle.exchange_opening.proofs.options.bits_for.Given as goal

abbrev pub invariant-loop-bits : goal.invariant-loop-bits
invariant-loop-bits l = (fewer : ℕ) → fewer < l.bits → 2 ^ fewer < l.rows
