-- One less than a power, without its last bits, is one less than a smaller power.
use Rattle.std.proofs.Common.{◌≡◌, ℕ, ◌+◌, ◌-◌, ◌*◌, ◌/◌, ◌^◌, ◌<◌, ◌∙◌, ap, arith}
use Rattle.std.proofs.lemmas.Nat.{pow-add, pow_pos, shr_high}
use Rattle.exchange_calls.proofs.desk.ones.Goals as goal

pub returns : goal.returns
returns c =
    let bits = c.args.bits in
    let rest : ℕ = 64 - bits in
    let whole : 2 ^ 64 ≡ 2 ^ rest * 2 ^ bits =
    (let e : 64 ≡ rest + bits = omega arith in ap (λ (n : ℕ). 2 ^ n) e ∙ pow-add 2 rest bits) in
    let high : 2 ^ rest ≡ (2 ^ rest - 1) + 1 = (let some = pow_pos rest in omega (arith, some)) in
    let split : 2 ^ rest * 2 ^ bits ≡ (2 ^ rest - 1) * 2 ^ bits + 2 ^ bits =
    ap (λ (n : ℕ). n * 2 ^ bits) high ∙ product (2 ^ rest - 1) (2 ^ bits) in
    let low : 2 ^ bits - 1 < 2 ^ bits = (let some = pow_pos bits in omega (arith, some)) in
    let all : 18446744073709551615 ≡ (2 ^ rest - 1) * 2 ^ bits + (2 ^ bits - 1) =
    (let some = pow_pos bits in omega (arith, whole, split, some)) in
    ap (λ (n : ℕ). n / 2 ^ bits) all ∙ shr_high (2 ^ rest - 1) bits (2 ^ bits - 1) low
  where
    product : (a b : ℕ) → (a + 1) * b ≡ a * b + b
    product a b = omega arith
