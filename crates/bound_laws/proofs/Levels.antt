-- Counting prefixes depth by depth: those of a depth are the numbers below a power of two, and their numbers come one
-- depth after the other.
use Rattle.std.proofs.Common.{◌≡◌, ℕ, zero, suc, ◌+◌, ◌-◌, ◌*◌, ◌/◌, ◌^◌, ◌<◌, ◌≤◌, Bool, true, false, cond, leb, inl, inr, refl, sym, ap, ◌∙◌, arith}
use Rattle.std.specs.Prelude.{count_by, sum_by}
use Rattle.std.specs.List.{range_with_len}
use Rattle.std.proofs.lemmas.Bool.{cases_lt, le-leb, cond-true, cond-false, leb-true}
use Rattle.std.proofs.lemmas.List.Sums.{sum_by-cons}
use Rattle.std.proofs.Math.Pow.{pow_mono}
use Rattle.std.proofs.Math.Nat.{pow-suc}
use Rattle.list_laws.proofs.Pigeons.{flag, passing, code}

-- ---- how many pass

pub passing_alike : (f g : ℕ → Bool) (n : ℕ) → ((i : ℕ) → i < n → f i ≡ g i) → passing f n ≡ passing g n
passing_alike f g zero same = refl
passing_alike f g (suc n) same =
    omega (arith, ap flag (same n (omega arith)), passing_alike f g n (λ i h. same i (omega (arith, h))))

-- first some numbers, then the others
pub passing_append : (f : ℕ → Bool) (a n : ℕ) → passing f (a + n) ≡ passing f a + passing (λ i. f (a + i)) n
passing_append f a zero = (let same : a + 0 ≡ a = omega arith in omega (arith, ap (passing f) same))
passing_append f a (suc n) =
    (let same : a + suc n ≡ suc (a + n) = omega arith in omega (arith, ap (passing f) same, passing_append f a n))

-- of twice as many numbers, by their halves
pub passing_half : (f : ℕ → Bool) (n : ℕ) → passing (λ i. f (i / 2)) (2 * n) ≡ 2 * passing f n
passing_half f zero = refl
passing_half f (suc n) =
    let same : 2 * suc n ≡ suc (suc (2 * n)) = omega arith in
    let low : (2 * n) / 2 ≡ n = omega arith in
    let high : suc (2 * n) / 2 ≡ n = omega arith in
    omega (
      arith,
      ap (passing (λ i. f (i / 2))) same,
      ap (λ i. flag (f i)) low,
      ap (λ i. flag (f i)) high,
      passing_half f n,
    )

-- of a list of numbers one after the other
pub count_range : (f : ℕ → Bool) (a n : ℕ) → count_by f (range_with_len a n) ≡ passing (λ i. f (a + i)) n
count_range f a zero = refl
count_range f a (suc n) =
    let front = passing_append (λ i. f (a + i)) 1 n in
    let one : 1 + n ≡ suc n = omega arith in
    let here : a + 0 ≡ a = omega arith in
    let rest : passing (λ i. f (a + (1 + i))) n ≡ passing (λ i. f (a + 1 + i)) n =
    passing_alike (λ i. f (a + (1 + i))) (λ i. f (a + 1 + i)) n
    (λ i h. (let e : a + (1 + i) ≡ a + 1 + i = omega arith in ap f e)) in
    omega (
      arith,
      sum_by-cons (λ x. cond (f x) 1 0) a (range_with_len (a + 1) n),
      count_range f (a + 1) n,
      front,
      ap (passing (λ i. f (a + i))) one,
      rest,
      ap (λ i. flag (f i)) here,
    )

-- ---- sums

abbrev pub sum_below : (ℕ → ℕ) → ℕ → ℕ
sum_below g zero = 0
sum_below g (suc n) = g n + sum_below g n

-- sums of less, of two, of first some and then the others, of none, and over a list of numbers one after the other
pub sum_less : (g h : ℕ → ℕ) (n : ℕ) → ((i : ℕ) → i < n → g i ≤ h i) → sum_below g n ≤ sum_below h n
sum_less g h zero less = omega arith
sum_less g h (suc n) less = omega (arith, less n (omega arith), sum_less g h n (λ i lt. less i (omega (arith, lt))))

pub sum_both : (g h : ℕ → ℕ) (n : ℕ) → sum_below (λ i. g i + h i) n ≡ sum_below g n + sum_below h n
sum_both g h zero = refl
sum_both g h (suc n) = omega (arith, sum_both g h n)

pub sum_append : (g : ℕ → ℕ) (a n : ℕ) → sum_below g (a + n) ≡ sum_below g a + sum_below (λ i. g (a + i)) n
sum_append g a zero = (let same : a + 0 ≡ a = omega arith in omega (arith, ap (sum_below g) same))
sum_append g a (suc n) =
    (let same : a + suc n ≡ suc (a + n) = omega arith in omega (arith, ap (sum_below g) same, sum_append g a n))

pub sum_none : (g : ℕ → ℕ) (n : ℕ) → ((i : ℕ) → i < n → g i ≡ 0) → sum_below g n ≡ 0
sum_none g zero none = refl
sum_none g (suc n) none = omega (arith, none n (omega arith), sum_none g n (λ i h. none i (omega (arith, h))))

pub sum_range : (g : ℕ → ℕ) (a n : ℕ) → sum_by g (range_with_len a n) ≡ sum_below (λ i. g (a + i)) n
sum_range g a zero = refl
sum_range g a (suc n) =
    let front = sum_append (λ i. g (a + i)) 1 n in
    let one : 1 + n ≡ suc n = omega arith in
    let here : a + 0 ≡ a = omega arith in
    let rest : sum_below (λ i. g (a + (1 + i))) n ≡ sum_below (λ i. g (a + 1 + i)) n = alike n in
    omega (
      arith,
      sum_by-cons g a (range_with_len (a + 1) n),
      sum_range g (a + 1) n,
      front,
      ap (sum_below (λ i. g (a + i))) one,
      rest,
      ap g here,
    )
  where
    alike : (m : ℕ) → sum_below (λ i. g (a + (1 + i))) m ≡ sum_below (λ i. g (a + 1 + i)) m
    alike zero = refl
    alike (suc m) = (let e : a + (1 + m) ≡ a + 1 + m = omega arith in omega (arith, ap g e, alike m))

-- ---- depth by depth

-- a test of prefixes, as one of their numbers
abbrev pub tested : (ℕ → ℕ → Bool) → (depths : ℕ) → ℕ → Bool
tested t zero n = false
tested t (suc d) n = cond (leb (2 ^ d) n) (t d (n - 2 ^ d)) (tested t d n)

-- it is the test of the prefix
pub tested_is : (t : ℕ → ℕ → Bool) (depths d p : ℕ) → d < depths → p < 2 ^ d → tested t depths (code d p) ≡ t d p
tested_is t zero d p h lt = absurd (omega (arith, h))
tested_is t (suc e) d p h lt = elim (cases_lt d e) [
  | inl less ↦
      let up : 2 ^ (suc d) ≤ 2 ^ e = pow_mono (omega (arith, less)) in
      cond-false (leb (2 ^ e) (code d p)) (t e (code d p - 2 ^ e)) (tested t e (code d p))
      (above (leb (2 ^ e) (code d p)) refl (omega (arith, up, pow-suc 2 d, lt))) ∙ tested_is t e d p less lt
  | inr most ↦
      let same : d ≡ e = omega (arith, most, h) in
      let at : 2 ^ d ≡ 2 ^ e = ap (λ n. 2 ^ n) same in
      cond-true (leb (2 ^ e) (code d p)) (t e (code d p - 2 ^ e)) (tested t e (code d p))
      (le-leb (2 ^ e) (code d p) (omega (arith, at)))
      ∙ ap (λ n. t n (code d p - 2 ^ e)) (sym same) ∙ ap (t d) (omega (arith, at))
]
  where
    above : (b : Bool) → leb (2 ^ e) (code d p) ≡ b → code d p < 2 ^ e → b ≡ false
    above true x less = absurd (omega (arith, leb-true (2 ^ e) (code d p) x, less))
    above false x less = refl

-- as many numbers pass as prefixes
pub tested_count : (t : ℕ → ℕ → Bool) (depths : ℕ) → passing (tested t depths) (2 ^ depths) ≡ sum_below
    (λ d. passing (t d) (2 ^ d)) depths
tested_count t zero = refl
tested_count t (suc d) =
    let all : 2 ^ suc d ≡ 2 ^ d + 2 ^ d = omega (arith, pow-suc 2 d) in
    let low = passing_alike (tested t (suc d)) (tested t d) (2 ^ d) (λ i h. cond-false (leb (2 ^ d) i) (t d (i - 2 ^ d))
    (tested t d i) (below i h (leb (2 ^ d) i) refl)) in
    let high = passing_alike (λ i. tested t (suc d) (2 ^ d + i)) (t d) (2 ^ d)
    (λ i h. cond-true (leb (2 ^ d) (2 ^ d + i)) (t d (2 ^ d + i - 2 ^ d)) (tested t d (2 ^ d + i))
    (le-leb (2 ^ d) (2 ^ d + i) (omega arith)) ∙ ap (t d) (omega arith)) in
    omega (
      arith,
      ap (passing (tested t (suc d))) all,
      passing_append (tested t (suc d)) (2 ^ d) (2 ^ d),
      low,
      high,
      tested_count t d,
    )
  where
    below : (i : ℕ) → i < 2 ^ d → (b : Bool) → leb (2 ^ d) i ≡ b → b ≡ false
    below i h true x = absurd (omega (arith, leb-true (2 ^ d) i x, h))
    below i h false x = refl
