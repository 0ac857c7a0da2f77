use Rattle.std.proofs.Common.{◌≤◌, ◌^◌, arith}
use Rattle.std.proofs.Math.Pow.{pow_mono}
use Rattle.seat_machine.proofs.passes.prefix_at.Goals as goal

pub returns-clause-few : goal.returns-clause-few
returns-clause-few c =
    let bound : 2 ^ c.args.depth ≤ 2 ^ 32 = pow_mono c.requires in
    omega (arith, bound, c.bits.ensures.within)
