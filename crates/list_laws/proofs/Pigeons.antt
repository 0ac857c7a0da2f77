-- Distinct numbers that pass a test are at most as many as pass it.
use Rattle.std.proofs.Common.{◌≡◌, ◌≢◌, ℕ, zero, suc, ◌+◌, ◌-◌, ◌^◌, ◌<◌, ◌≤◌, ◌==◌, ◌⊎◌, Bool, true, false, cond, ltb, eqb-true, inl, inr, refl, sym, ap, ◌∙◌, arith}
use Rattle.std.proofs.lemmas.Bool.{cases_eq, cases_lt, cond_both, eqb-false, ltb-true, ltb-false}
use Rattle.std.proofs.Math.Pow.{pow_mono}
use Rattle.std.proofs.Math.Nat.{pow-suc}

-- one where it holds
abbrev pub flag : Bool → ℕ
flag b = cond b 1 0

-- how many numbers below this one pass
abbrev pub passing : (ℕ → Bool) → ℕ → ℕ
passing test zero = 0
passing test (suc n) = cond (test n) 1 0 + passing test n

-- no more pass than there are
pub passing_most : (test : ℕ → Bool) (n : ℕ) → passing test n ≤ n
passing_most test zero = omega arith
passing_most test (suc n) = omega (arith, passing_most test n, one (test n))
  where
    one : (b : Bool) → flag b ≤ 1
    one true = omega arith
    one false = omega arith

-- the place where a number stands, if it stands
pub seek : (f : ℕ → ℕ) (n k : ℕ) → ((i : ℕ) × (i < k) × (f i ≡ n)) ⊎ ((i : ℕ) → i < k → f i ≢ n)
seek f n zero = inr (λ i h. absurd (omega (arith, h)))
seek f n (suc k) = elim (cases_eq (f k) n) [
  | inl e ↦ inl (k, omega arith, e)
  | inr d ↦ elim (seek f n k) [
    | inl r ↦ inl (r.0, omega (arith, r.1), r.2)
    | inr never ↦ inr
        (λ i h. elim (cases_eq i k) [ inl e ↦ (λ x. d (ap f (sym e) ∙ x)) | inr m ↦ never i (omega (arith, h, m)) ])
  ]
]

-- the numbers, where the last one has taken the place of the i-th
abbrev moved : (ℕ → ℕ) → (i last : ℕ) → ℕ → ℕ
moved f i last j = cond (j == i) (f last) (f j)

-- distinct numbers that pass are at most as many as there are
pub pigeons : (test : ℕ → Bool) (n k : ℕ) (f : ℕ → ℕ) → ((i : ℕ) → i < k → (f i < n) × (test (f i) ≡ true)) →
    ((i j : ℕ) → i < k → j < k → f i ≡ f j → i ≡ j) → k ≤ passing test n
pigeons test n zero f each once = omega arith
pigeons test zero (suc k) f each once = absurd (omega (arith, (each 0 (omega arith)).0))
pigeons test (suc n) (suc k) f each once = elim (seek f n (suc k)) [
  | inr never ↦
      let rest = pigeons test n (suc k) f (λ i h. let b = each i h in let m = never i h in (omega (arith, b.0, m), b.1))
      once in
      omega (arith, rest)
  | inl r ↦
      let i = r.0 in
      let one : flag (test n) ≡ 1 = ap flag (ap test (sym r.2) ∙ (each i r.1).1) in
      let rest = pigeons test n k (moved f i k) (each_moved i r.1 r.2) (once_moved i r.1) in
      omega (arith, one, rest)
]
  where
    each_moved : (i : ℕ) → i < suc k → f i ≡ n → (j : ℕ) → j < k → (moved f i k j < n) × (test (moved f i k j) ≡ true)
    each_moved i hi e j hj = cond_both (j == i) (f k) (f j) (λ x. (x < n) × (test x ≡ true))
        (λ same.
        let b = each k (omega arith) in
        let is : j ≡ i = eqb-true j i same in
        let other : f k ≢ n =
        λ x. (let last = once k i (omega arith) hi (x ∙ sym e) in absurd (omega (arith, last, is, hj))) in
        (omega (arith, b.0, other), b.1))
        (λ differ.
        let b = each j (omega (arith, hj)) in
        let other : f j ≢ n = λ x. eqb-false j i differ (once j i (omega (arith, hj)) hi (x ∙ sym e)) in
        (omega (arith, b.0, other), b.1))

    once_moved : (i : ℕ) → i < suc k → (a b : ℕ) → a < k → b < k → moved f i k a ≡ moved f i k b → a ≡ b
    once_moved i hi a b ha hb e = go (a == i) refl (b == i) refl e
      where
        go : (x : Bool) → (a == i) ≡ x → (y : Bool) → (b == i) ≡ y → cond x (f k) (f a) ≡ cond y (f k) (f b) → a ≡ b
        go true p true q e = eqb-true a i p ∙ sym (eqb-true b i q)
        go true p false q e = absurd (omega (arith, once k b (omega arith) (omega (arith, hb)) e, hb))
        go false p true q e = absurd (omega (arith, once a k (omega (arith, ha)) (omega arith) e, ha))
        go false p false q e = once a b (omega (arith, ha)) (omega (arith, hb)) e

-- ---- several families of numbers

abbrev pub all_of : (ℕ → ℕ) → ℕ → ℕ
all_of count zero = 0
all_of count (suc m) = count m + all_of count m

-- the family of the k-th of all, and its place there
abbrev family : (ℕ → ℕ) → (families k : ℕ) → ℕ
family count zero k = 0
family count (suc m) k = cond (ltb k (all_of count m)) (family count m k) m

-- its place in its family
abbrev within : (ℕ → ℕ) → (families k : ℕ) → ℕ
within count zero k = 0
within count (suc m) k = cond (ltb k (all_of count m)) (within count m k) (k - all_of count m)

-- it is one of them
in_family : (count : ℕ → ℕ) (m k : ℕ) → k < all_of count m → (family count m k < m)
    × (within count m k < count (family count m k))
in_family count zero k h = absurd (omega (arith, h))
in_family count (suc m) k h = go (ltb k (all_of count m)) refl (in_family count m k)
  where
    go : (b : Bool) → ltb k (all_of count m) ≡ b →
        (k < all_of count m → (family count m k < m) × (within count m k < count (family count m k))) →
        (cond b (family count m k) m < suc m)
        × (cond b (within count m k) (k - all_of count m) < count (cond b (family count m k) m))
    go true e rest = (let r = rest (ltb-true k (all_of count m) e) in (omega (arith, r.0), r.1))
    go false e rest = (omega arith, omega (arith, h, ltb-false k (all_of count m) e))

-- and no two have one family and one place
one_family : (count : ℕ → ℕ) (m j k : ℕ) → j < all_of count m → k < all_of count m →
    family count m j ≡ family count m k → within count m j ≡ within count m k → j ≡ k
one_family count zero j k hj hk f w = absurd (omega (arith, hj))
one_family count (suc m) j k hj hk f w =
    go (ltb j (all_of count m)) refl (ltb k (all_of count m)) refl f w (one_family count m j k)
  where
    go : (x : Bool) → ltb j (all_of count m) ≡ x → (y : Bool) → ltb k (all_of count m) ≡ y →
        cond x (family count m j) m ≡ cond y (family count m k) m →
        cond x (within count m j) (j - all_of count m) ≡ cond y (within count m k) (k - all_of count m) →
        (j < all_of count m → k < all_of count m → family count m j ≡ family count m k →
        within count m j ≡ within count m k → j ≡ k) → j ≡ k
    go true p true q f w rest = rest (ltb-true j (all_of count m) p) (ltb-true k (all_of count m) q) f w
    go true p false q f w rest = absurd (omega (arith, f, (in_family count m j (ltb-true j (all_of count m) p)).0))
    go false p true q f w rest = absurd (omega (arith, f, (in_family count m k (ltb-true k (all_of count m) q)).0))
    go false p false q f w rest = omega (arith, w, ltb-false j (all_of count m) p, ltb-false k (all_of count m) q)

-- distinct numbers of several families that pass are at most as many as there are
pub families : (test : ℕ → Bool) (n m : ℕ) (count : ℕ → ℕ) (f : ℕ → ℕ → ℕ) →
    ((p j : ℕ) → p < m → j < count p → (f p j < n) × (test (f p j) ≡ true)) →
    ((p q j k : ℕ) → p < m → q < m → j < count p → k < count q → f p j ≡ f q k → (p ≡ q) × (j ≡ k)) →
    all_of count m ≤ passing test n
families test n m count f each once =
    pigeons test n (all_of count m) (λ k. f (family count m k) (within count m k))
    (λ k h. (let r = in_family count m k h in each (family count m k) (within count m k) r.0 r.1))
    (λ j k hj hk e.
    let a = in_family count m j hj in
    let b = in_family count m k hk in
    let same = once (family count m j) (family count m k) (within count m j) (within count m k) a.0 b.0 a.1 b.1 e in
    one_family count m j k hj hk same.0 same.1)

-- the number of a prefix: a one, and then its bits
abbrev pub code : (depth prefix : ℕ) → ℕ
code depth prefix = 2 ^ depth + prefix

-- no two prefixes have one number
pub code_once : (d e p q : ℕ) → p < 2 ^ d → q < 2 ^ e → code d p ≡ code e q → (d ≡ e) × (p ≡ q)
code_once d e p q hp hq same = elim (cases_lt d e) [
  | inl less ↦ absurd (let up = twice d e less in omega (arith, same, up, hp))
  | inr more ↦ elim (cases_lt e d) [
    | inl less ↦ absurd (let up = twice e d less in omega (arith, same, up, hq))
    | inr most ↦ (let is : d ≡ e = omega (arith, more, most) in (is, omega (arith, same, ap (λ n. 2 ^ n) is)))
  ]
]
  where
    twice : (a b : ℕ) → a < b → 2 ^ a + 2 ^ a ≤ 2 ^ b
    twice a b less = (let up : 2 ^ (suc a) ≤ 2 ^ b = pow_mono (omega (arith, less)) in omega (arith, up, pow-suc 2 a))

-- the numbers of the prefixes up to a depth
pub code_below : (d e p : ℕ) → d ≤ e → p < 2 ^ d → code d p < 2 ^ (e + 1)
code_below d e p o h =
    (let up : 2 ^ (suc d) ≤ 2 ^ (e + 1) = pow_mono (omega (arith, o)) in omega (arith, up, pow-suc 2 d, h))
