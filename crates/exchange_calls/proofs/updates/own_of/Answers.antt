-- A bucket's number is below that of all buckets.
use Rattle.std.proofs.Common.{◌^◌, ◌≤◌, arith}
use Rattle.std.proofs.Math.Nat.{pow-le-pow_right}
use Rattle.exchange_calls.proofs.updates.own_of.Goals as goal

pub returns-clause-short : goal.returns-clause-short
returns-clause-short c =
    let few : 2 ^ c.args.desk.now.sizes.depth ≤ 2 ^ 20 = pow-le-pow_right (omega arith) c.args.desk.now.sizes.low in
    omega (arith, few, c.bucket_of.ensures.few)
