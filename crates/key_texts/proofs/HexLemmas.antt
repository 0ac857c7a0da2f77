-- The hexadecimal digits of a number of 16 bits.
use Rattle.std.proofs.Common.{◌≡◌, ℕ, suc, ◌/◌, ◌%◌, ◌^◌, ◌<◌, ◌≤◌, List, [], ◌∷◌, Bool, false, cond, ap, ◌∙◌, arith}
use Rattle.std.specs.Fmt.{digits, digit_glyph, digits_onto}
use borrow.Author.Tests.{eq-eqb, ne_eqb}

-- one digit goes before the others, and the rest of the number comes before it
digits_step : (k n : ℕ) (others : List ℕ) → 16 ≤ n →
    digits_onto (suc k) 16 false n others ≡ digits_onto k 16 false (n / 16) (digit_glyph false (n % 16) ∷ others)
digits_step k n others more =
    ap (λ (b : Bool). cond b (digit_glyph false (n % 16) ∷ others)
    (digits_onto k 16 false (n / 16) (digit_glyph false (n % 16) ∷ others))) (ne_eqb (n / 16) 0 (λ none. omega arith))

-- the first digit ends it
digits_last : (k n : ℕ) (others : List ℕ) → n < 16 →
    digits_onto (suc k) 16 false n others ≡ digit_glyph false (n % 16) ∷ others
digits_last k n others small =
    ap (λ (b : Bool). cond b (digit_glyph false (n % 16) ∷ others)
    (digits_onto k 16 false (n / 16) (digit_glyph false (n % 16) ∷ others))) (eq-eqb (n / 16) 0 (omega arith))

-- a number below 16 has one digit
pub one_digit : (n : ℕ) → n < 16 → digits 16 false n ≡ digit_glyph false (n % 16) ∷ []
unfolding digits
one_digit n small = digits_last 63 n [] small

-- one below 256 has two
pub two_digits : (n : ℕ) → 16 ≤ n → n < 256 →
    digits 16 false n ≡ digit_glyph false (n / 16 % 16) ∷ digit_glyph false (n % 16) ∷ []
unfolding digits
two_digits n low high =
    digits_step 63 n [] low ∙ digits_last 62 (n / 16) (digit_glyph false (n % 16) ∷ []) (omega arith)

-- one below 4096 has three
pub three_digits : (n : ℕ) → 256 ≤ n → n < 4096 →
    digits 16 false n
    ≡ digit_glyph false (n / 256 % 16) ∷ digit_glyph false (n / 16 % 16) ∷ digit_glyph false (n % 16) ∷ []
unfolding digits
three_digits n low high =
    let first : n / 16 / 16 % 16 ≡ n / 256 % 16 = omega arith in
    let last : List ℕ = digit_glyph false (n % 16) ∷ [] in
    let middle : List ℕ = digit_glyph false (n / 16 % 16) ∷ last in
    digits_step 63 n [] (omega arith)
    ∙ digits_step 62 (n / 16) last (omega arith)
    ∙ digits_last 61 (n / 16 / 16) middle (omega arith)
    ∙ ap (λ (d : ℕ). digit_glyph false d ∷ middle) first

-- one of 16 bits has four at most
pub four_digits : (n : ℕ) → 4096 ≤ n → n < 2 ^ 16 →
    digits 16 false n
    ≡ digit_glyph false (n / 4096) ∷ digit_glyph false (n / 256 % 16) ∷ digit_glyph false (n / 16 % 16)
    ∷ digit_glyph false (n % 16) ∷ []
unfolding digits
four_digits n low high =
    let second : n / 16 / 16 % 16 ≡ n / 256 % 16 = omega arith in
    let first : n / 16 / 16 / 16 % 16 ≡ n / 4096 = omega arith in
    let last : List ℕ = digit_glyph false (n % 16) ∷ [] in
    let middle : List ℕ = digit_glyph false (n / 16 % 16) ∷ last in
    digits_step 63 n [] (omega arith)
    ∙ digits_step 62 (n / 16) last (omega arith)
    ∙ digits_step 61 (n / 16 / 16) middle (omega arith)
    ∙ digits_last 60 (n / 16 / 16 / 16) (digit_glyph false (n / 16 / 16 % 16) ∷ middle) (omega arith)
    ∙ (λ i. digit_glyph false (first i) ∷ digit_glyph false (second i) ∷ middle)
