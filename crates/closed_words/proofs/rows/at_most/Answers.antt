-- 2^64 is more than there can be.
use Rattle.std.proofs.Common.{◌^◌, ◌<◌, ◌≤◌, sym, arith}
use Rattle.std.proofs.Math.Pow.{pow_mono}
use Rattle.std.proofs.Math.Nat.{min-eq_right}
use Rattle.closed_words.proofs.rows.at_most.Goals as goal
use Rattle.closed_words.proofs.rows.at_most.Goals.{else-depth-lt64-via-then-depth-lt64+else-depth-many, else-depth-lt64-via-else-depth-lt64}

pub returns-else-depth-lt64 : goal.returns-else-depth-lt64
returns-else-depth-lt64 c =
    let few : c.args.many < 2 ^ 64 = omega arith in
    sym (min-eq_right
    (elim c.else-depth-lt64.branch [
      | else-depth-lt64-via-then-depth-lt64+else-depth-many w ↦ omega arith
      | else-depth-lt64-via-else-depth-lt64 w ↦ (
          let deep : 64 ≤ c.args.depth = omega arith in
          omega (arith, pow_mono deep))
    ]))
