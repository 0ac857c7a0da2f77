-- What is read as a byte in hexadecimal is its text, and each byte's text is read so.
use Rattle.std.proofs.Common.{◌≡◌, ℕ, ◌+◌, ◌*◌, ◌/◌, ◌%◌, ◌^◌, ◌<◌, false, List, [], ◌∷◌, Some, ap, ◌∙◌, arith}
use Rattle.std.proofs.lemmas.Option.{none-some, some_pair_parts}
use Rattle.std.specs.Fmt.{digit_glyph}
use Rattle.line_fields.specs.Reading.{hex_digit, hexadecimal_at}
use Rattle.line_fields.proofs.BindLemmas.{bind_some}

-- a digit's glyph is read as the digit
pub glyph_again : (n : ℕ) → n < 16 → hex_digit (digit_glyph false n) ≡ Some n
glyph_again n small = grind arith

-- what is read as a digit is its glyph
pub record IsGlyph (b n : ℕ) : Type 0 where
  pub glyph : b ≡ digit_glyph false n
  pub small : n < 16

pub glyph_takes : (b n : ℕ) → hex_digit b ≡ Some n → IsGlyph b n
glyph_takes b n is = record { glyph = grind arith; small = grind arith }

-- the bytes begin with the text of a byte
pub record IsByteAt (bytes : List ℕ) (n : ℕ) (rest : List ℕ) : Type 0 where
  pub text : bytes ≡ digit_glyph false (n / 16) ∷ digit_glyph false (n % 16) ∷ rest
  pub small : n < 2 ^ 8

pub hexadecimal_again : (n : ℕ) (rest : List ℕ) → n < 2 ^ 8 →
    hexadecimal_at (digit_glyph false (n / 16) ∷ digit_glyph false (n % 16) ∷ rest) ≡ Some (n, rest)
unfolding hexadecimal_at
hexadecimal_again n rest small =
    let high : n / 16 < 16 = omega arith in
    let low : n % 16 < 16 = omega arith in
    let whole : n / 16 * 16 + n % 16 ≡ n = omega arith in
    rw (glyph_again (n / 16) high, glyph_again (n % 16) low) (ap (λ (m : ℕ). Some (m, rest)) whole)

pub hexadecimal_takes : (bytes : List ℕ) (n : ℕ) (rest : List ℕ) → hexadecimal_at bytes ≡ Some (n, rest) →
    IsByteAt bytes n rest
unfolding hexadecimal_at
hexadecimal_takes [] n rest is = absurd (none-some (n, rest) is)
hexadecimal_takes (b ∷ []) n rest is = absurd (none-some (n, rest) is)
hexadecimal_takes (b ∷ c ∷ bytes) n rest is =
    let s1 = bind_some (hex_digit b) _ (n, rest) is in
    let s2 = bind_some (hex_digit c) _ (n, rest) s1.2 in
    let high : IsGlyph b s1.0 = glyph_takes b s1.0 s1.1 in
    let low : IsGlyph c s2.0 = glyph_takes c s2.0 s2.1 in
    let parts : (s1.0 * 16 + s2.0 ≡ n) × (bytes ≡ rest) = some_pair_parts _ n bytes rest s2.2 in
    let small_high : s1.0 < 16 = high.small in
    let small_low : s2.0 < 16 = low.small in
    let upper : s1.0 ≡ n / 16 = omega (arith, parts.0) in
    let lower : s2.0 ≡ n % 16 = omega (arith, parts.0) in
    record {
      text =
          ap (λ (x : ℕ). x ∷ c ∷ bytes) (high.glyph ∙ ap (λ (m : ℕ). digit_glyph false m) upper)
          ∙ ap (λ (x : ℕ). digit_glyph false (n / 16) ∷ x ∷ bytes)
          (low.glyph ∙ ap (λ (m : ℕ). digit_glyph false m) lower)
          ∙ ap (λ (r : List ℕ). digit_glyph false (n / 16) ∷ digit_glyph false (n % 16) ∷ r) parts.1;
      small = omega (arith, parts.0);
    }
