-- Fewer bits of a hash than are known, and more than it has.
use Rattle.std.proofs.Common.{◌≡◌, ℕ, ◌≤◌, ◌-◌, ◌+◌, ◌/◌, ◌^◌, ap, ◌∙◌, arith}
use Rattle.std.proofs.lemmas.Nat.{shr-shr}
use Rattle.hash_bits.specs.Prefix.{first_bits}

-- the first bits give those at a lesser depth
pub first_bits-fewer : (h d e : ℕ) → e ≤ d → d ≤ 64 → first_bits h d / 2 ^ (d - e) ≡ first_bits h e
unfolding first_bits
first_bits-fewer h d e o w = (let sum : 64 - d + (d - e) ≡ 64 - e = omega (arith, o, w) in shr-shr h (64 - d) (d - e)
    ∙ ap (λ k. h / 2 ^ k) sum)

-- from depth 64 on they are the hash
pub first_bits-deep : (h d : ℕ) → 64 ≤ d → first_bits h d ≡ h
unfolding first_bits
first_bits-deep h d deep =
    let none : 64 - d ≡ 0 = omega arith in
    rw none (omega arith)
