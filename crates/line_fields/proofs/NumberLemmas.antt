-- A number, read digit by digit.
use Rattle.std.proofs.Common.{◌≡◌, ℕ, ◌+◌, ◌-◌, ◌*◌, ◌^◌, ◌<◌, ◌≤◌, nat_le, true, cond, List, [], ◌∷◌, Some, None, refl, sym, ap, ◌∙◌, arith}
use Rattle.std.specs.Char.{is_ascii_digit}
use Rattle.line_fields.specs.Reading.{HasNoDigit, digits_at}

-- one digit more is read
pub digits_more : (most front b : ℕ) (bytes : List ℕ) → is_ascii_digit b ≡ true →
    digits_at most (front * 10 + (b - 48)) bytes ≡ digits_at most front (b ∷ bytes)
unfolding digits_at
digits_more most front b bytes digit = rw digit refl

-- the number ends here
pub digits_end : (most front : ℕ) (bytes : List ℕ) → HasNoDigit bytes →
    digits_at most front bytes ≡ cond (nat_le front most) (Some (front, bytes)) None
unfolding digits_at
digits_end most front [] end = refl
digits_end most front (b ∷ bytes) end = rw end refl

-- what is too large stays so
pub digits_over : (most front : ℕ) (bytes : List ℕ) → most < front → digits_at most front bytes ≡ None
unfolding digits_at
digits_over most front [] over = grind arith
digits_over most front (b ∷ bytes) over = grind (arith, digits_over most (front * 10 + (b - 48)) bytes (omega arith))

-- a digit more than 64 bits hold is too large
pub digits_lost : (most front b : ℕ) (bytes rest : List ℕ) → rest ≡ b ∷ bytes → is_ascii_digit b ≡ true →
    most < 2 ^ 64 → 2 ^ 64 ≤ front * 10 + (b - 48) → digits_at most front rest ≡ None
digits_lost most front b bytes rest is digit small large =
    let over : most < front * 10 + (b - 48) = omega arith in
    ap (λ (text : List ℕ). digits_at most front text) is ∙ sym (digits_more most front b bytes digit)
    ∙ digits_over most (front * 10 + (b - 48)) bytes over
