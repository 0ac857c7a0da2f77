-- The last one of some bits: what is above it, and that noughts come after it.
use Rattle.std.proofs.Common.{◌≡◌, ℕ, zero, suc, ◌+◌, ◌-◌, ◌*◌, ◌/◌, ◌%◌, ◌^◌, ◌<◌, ◌==◌, Bool, true, false, cond, Option, Some, None, refl, sym, ap, ◌∙◌, arith}
use Rattle.std.proofs.lemmas.Bool.{eqb-true, eqb-false}
use Rattle.std.proofs.lemmas.Nat.{shr-shr}
use Rattle.std.proofs.Math.Nat.{pow-suc}

-- a place, and what stands above it
abbrev pub found : ℕ → ℕ → Option (ℕ × ℕ)
found m q = Some (m, q)

-- what is found is the same
some_same : {x y : ℕ × ℕ} → Some x ≡ Some y → x ≡ y
some_same e = cc

-- of the last bits of a number, so many of them, the place of the last one from above, and what stands above it
abbrev pub strip : (bits p : ℕ) → Option (ℕ × ℕ)
strip zero p = None
strip (suc k) p = cond (p % 2 == 1) (Some (k, p / 2)) (strip k (p / 2))

-- where there is none, all of them are noughts
pub strip_none : (k p : ℕ) → strip k p ≡ None → p ≡ p / 2 ^ k * 2 ^ k
strip_none zero p e = omega arith
strip_none (suc k) p e = go (p % 2 == 1) refl e (strip_none k (p / 2))
  where
    go : (b : Bool) → (p % 2 == 1) ≡ b → cond b (Some (k, p / 2)) (strip k (p / 2)) ≡ None →
        (strip k (p / 2) ≡ None → p / 2 ≡ p / 2 / 2 ^ k * 2 ^ k) → p ≡ p / 2 ^ suc k * 2 ^ suc k
    go true t e rest = cc
    go false t e rest =
        let even : p % 2 ≡ 0 = omega (arith, eqb-false (p % 2) 1 t) in
        let down : p / 2 / 2 ^ k ≡ p / 2 ^ suc k = shr-shr p 1 k ∙ ap (λ n. p / 2 ^ n) (omega arith) in
        let half : p / 2 ≡ p / 2 ^ suc k * 2 ^ k = rest e ∙ ap (λ n. n * 2 ^ k) down in
        let twice : p / 2 ^ suc k * 2 ^ suc k ≡ 2 * (p / 2 ^ suc k * 2 ^ k) = twice_pow (p / 2 ^ suc k) k in
        omega (arith, even, half, twice)
      where
        twice_pow : (x n : ℕ) → x * 2 ^ suc n ≡ 2 * (x * 2 ^ n)
        twice_pow x n = ap (λ y. x * y) (pow-suc 2 n) ∙ grind arith

-- where there is one, this is above it, and noughts come after it
pub record Stripped (k p m q : ℕ) : Type 0 where
  pub less : m < k
  pub above : q ≡ p / 2 ^ (k - m)
  pub whole : p ≡ (2 * q + 1) * 2 ^ (k - m - 1)

pub strip_some : (k p m q : ℕ) → strip k p ≡ found m q → Stripped k p m q
strip_some zero p m q e = cc
strip_some (suc k) p m q e = go (p % 2 == 1) refl e (strip_some k (p / 2) m q)
  where
    first : {a b c d : ℕ} → found a b ≡ found c d → a ≡ c
    first {a = a} {b = b} {c = c} {d = d} e = ap (λ (x : ℕ × ℕ). x.0) (some_same e)

    second : {a b c d : ℕ} → found a b ≡ found c d → b ≡ d
    second {a = a} {b = b} {c = c} {d = d} e = ap (λ (x : ℕ × ℕ). x.1) (some_same e)

    go : (b : Bool) → (p % 2 == 1) ≡ b → cond b (Some (k, p / 2)) (strip k (p / 2)) ≡ found m q →
        (strip k (p / 2) ≡ found m q → Stripped k (p / 2) m q) → Stripped (suc k) p m q
    go true t e rest =
        let odd : p % 2 ≡ 1 = eqb-true (p % 2) 1 t in
        let at : k ≡ m = first e in
        let is : p / 2 ≡ q = second e in
        let one : suc k - m ≡ 1 = omega (arith, at) in
        let none : suc k - m - 1 ≡ 0 = omega (arith, at) in
        record {
          less = omega (arith, at);
          above = sym is ∙ ap (λ n. p / 2 ^ n) (sym one);
          whole = (let all : p ≡ (2 * q + 1) * 2 ^ 0 = omega (arith, odd, is) in all
              ∙ ap (λ n. (2 * q + 1) * 2 ^ n) (sym none));
        }
    go false t e rest =
        let r = rest e in
        let even : p % 2 ≡ 0 = omega (arith, eqb-false (p % 2) 1 t) in
        let more : suc k - m ≡ 1 + (k - m) = omega (arith, r.less) in
        let next : suc k - m - 1 ≡ suc (k - m - 1) = omega (arith, r.less) in
        let twice : (2 * q + 1) * 2 ^ suc (k - m - 1) ≡ 2 * ((2 * q + 1) * 2 ^ (k - m - 1)) =
        twice_pow (2 * q + 1) (k - m - 1) in
        record {
          less = omega (arith, r.less);
          above = r.above ∙ shr-shr p 1 (k - m) ∙ ap (λ n. p / 2 ^ n) (sym more);
          whole = (let all : p ≡ 2 * ((2 * q + 1) * 2 ^ (k - m - 1)) = omega (arith, even, r.whole) in all ∙ sym twice
              ∙ ap (λ n. (2 * q + 1) * 2 ^ n) (sym next));
        }
      where
        twice_pow : (x n : ℕ) → x * 2 ^ suc n ≡ 2 * (x * 2 ^ n)
        twice_pow x n = ap (λ y. x * y) (pow-suc 2 n) ∙ grind arith
