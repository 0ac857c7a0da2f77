-- The mask has the last bits.
use Rattle.std.proofs.Common.{◌^◌, ◌≤◌, ◌∙◌, bit_and, ap, arith}
use Rattle.std.proofs.Math.Nat.{pow-le-pow_right}
use Rattle.std.proofs.lemmas.Nat.{and_mask, pow_pos}
use Rattle.exchange_calls.proofs.desk.Desk.row_in.Goals as goal

pub returns-clause-value : goal.returns-clause-value
returns-clause-value c =
    ap (bit_and c.args.word) c.args.self.now.mask ∙ and_mask c.args.word c.args.self.now.sizes.row_bits

pub returns-clause-few : goal.returns-clause-few
unfolding returns-clause-value
returns-clause-few c =
    let bits = c.args.self.now.sizes.row_bits in
    let few : 2 ^ bits ≤ 2 ^ 21 = pow-le-pow_right (omega arith) c.args.self.now.sizes.few_bits in
    let some = pow_pos bits in
    omega (arith, returns-clause-value c, few, some)
