use Rattle.std.proofs.Common.{◌^◌, ◌≤◌, arith}
use Rattle.std.proofs.Math.Pow.{pow_mono}
use Rattle.exchange_opening.proofs.words.buckets_in.Goals as goal

pub returns-clause-few : goal.returns-clause-few
returns-clause-few c = let few : 2 ^ c.args.sizes.depth ≤ 2 ^ 20 = pow_mono c.args.sizes.low in omega (arith, few)
