-- It is a power that fits.
use Rattle.std.proofs.Common.{◌^◌, ◌≤◌, arith}
use Rattle.std.proofs.Math.Nat.{pow-le-pow_right}
use Rattle.exchange_calls.proofs.desk.power.Goals as goal

pub returns-clause-few : goal.returns-clause-few
returns-clause-few c =
    let few : 2 ^ c.args.bits ≤ 2 ^ 21 = pow-le-pow_right (omega arith) c.requires in
    omega (arith, few)
