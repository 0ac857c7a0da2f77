-- At most 2 ^ 12, since the depth is at most 12.
use Rattle.std.proofs.Common.{◌*◌, ◌^◌, ◌%◌, ◌≤◌, ◌≡◌, arith}
use Rattle.std.proofs.lemmas.Nat.{one_shl}
use Rattle.std.proofs.Math.Pow.{pow_mono}
use Rattle.word_rows.proofs.directories.entries_at.Goals as goal

pub returns-clause-few : goal.returns-clause-few
returns-clause-few c =
    let depth = c.args.depth in
    let inside : depth ≤ 12 = omega arith in
    let few : 2 ^ depth ≤ 2 ^ 12 = pow_mono inside in
    let whole : 1 * 2 ^ depth % 2 ^ 64 ≡ 2 ^ depth = one_shl depth 64 (omega arith) in
    omega (arith, few, whole)
