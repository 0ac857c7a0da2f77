-- What is read as a number is the number's text, and each number's text is read so.
use Rattle.std.proofs.Common.{◌≡◌, ℕ, suc, ◌+◌, ◌-◌, ◌*◌, ◌/◌, ◌%◌, ◌^◌, ◌<◌, ◌≤◌, ◌==◌, nat_le, Bool, true, false, cond, List, [], ◌∷◌, ◌++◌, Some, None, refl, sym, ap, ◌∙◌, append_assoc, subst, zero, arith}
use Rattle.std.proofs.lemmas.Fmt.{decimal_step, decimal_digit, decimal_by_steps}
use Rattle.std.proofs.lemmas.Option.{cond_some, none-some, some_pair_parts}
use Rattle.std.proofs.lemmas.Bool.{le-leb, eqb-true}
use Rattle.std.proofs.lemmas.List.{append-nil}
use Rattle.std.specs.Prelude.{decimal}
use Rattle.std.specs.Char.{is_ascii_digit}
use Rattle.line_fields.specs.Reading.{HasNoDigit, digits_at, number_at, zero_at}
use Rattle.line_fields.proofs.NumberLemmas.{digits_more, digits_end}

-- what is read is no less than its front, and no more than asked for
pub digits_between : (most front : ℕ) (bytes : List ℕ) (n : ℕ) (rest : List ℕ) →
    digits_at most front bytes ≡ Some (n, rest) → (front ≤ n) × (n ≤ most)
unfolding digits_at
digits_between most front [] n rest is = grind (arith)
digits_between most front (b ∷ bytes) n rest is =
    grind (arith, digits_between most (front * 10 + (b - 48)) bytes n rest)

-- a digit
digit_glyph : (n : ℕ) → n < 10 → is_ascii_digit (48 + n) ≡ true
digit_glyph n small = grind arith

pub digit_bounds : (b : ℕ) → is_ascii_digit b ≡ true → (48 ≤ b) × (b ≤ 57)
digit_bounds b digit = grind arith

-- the digits of a number, read one after the other, are the number
begins_one : (most n : ℕ) → n < 10 → 0 < n → (rest : List ℕ) →
    number_at most ((48 + n) ∷ rest) ≡ digits_at most n rest
unfolding number_at
begins_one most n small some rest =
    let digit : is_ascii_digit (48 + n) ≡ true = digit_glyph n small in
    let other : (48 + n == 48) ≡ false = grind arith in
    let same : 48 + n - 48 ≡ n = omega arith in
    rw (digit, other, same) refl

begins_more : (most n : ℕ) (text : List ℕ) → 10 ≤ n →
    (0 < n / 10 → (rest : List ℕ) → number_at most (text ++ rest) ≡ digits_at most (n / 10) rest) →
    0 < n → (rest : List ℕ) →
    number_at most ((text ++ ((48 + n % 10) ∷ [])) ++ rest) ≡ digits_at most n rest
begins_more most n text large before some rest =
    let last : n % 10 < 10 = omega arith in
    let same : n / 10 * 10 + (48 + n % 10 - 48) ≡ n = omega arith in
    ap (λ (bytes : List ℕ). number_at most bytes) (append_assoc text ((48 + n % 10) ∷ []) rest)
    ∙ before (omega arith) ((48 + n % 10) ∷ rest)
    ∙ sym (digits_more most (n / 10) (48 + n % 10) rest (digit_glyph (n % 10) last))
    ∙ ap (λ (m : ℕ). digits_at most m rest) same

begins : (most n : ℕ) → n < 2 ^ 64 → 0 < n → (rest : List ℕ) → number_at most (decimal n ++ rest) ≡ digits_at most n
    rest
begins most n small =
    decimal_by_steps
    (λ (n : ℕ) (text : List ℕ). 0 < n → (rest : List ℕ) → number_at most (text ++ rest) ≡ digits_at most n rest)
    (begins_one most) (begins_more most) n small

zero_again : (most : ℕ) (rest : List ℕ) → HasNoDigit rest → number_at most (48 ∷ rest) ≡ Some (0, rest)
unfolding number_at
zero_again most [] end = refl
zero_again most (b ∷ rest) end = rw end refl

-- a number's text is read as the number, where no digit stands behind it
pub number_again : (most n : ℕ) (rest : List ℕ) → n ≤ most → n < 2 ^ 64 → HasNoDigit rest →
    number_at most (decimal n ++ rest) ≡ Some (n, rest)
number_again most zero rest within small end =
    ap (λ (text : List ℕ). number_at most (text ++ rest)) (decimal_digit 0 (omega arith)) ∙ zero_again most rest end
number_again most (suc n) rest within small end =
    begins most (suc n) small (omega arith) rest ∙ digits_end most (suc n) rest end
    ∙ ap (λ (b : Bool). cond b (Some (suc n, rest)) None) (le-leb (suc n) most within)

-- a front, and the digits that make it a number
pub record HasDigits (front : ℕ) (bytes : List ℕ) (n : ℕ) (rest : List ℕ) : Type 0 where
  pub digits : List ℕ
  pub cut : bytes ≡ digits ++ rest
  pub whole : decimal n ≡ decimal front ++ digits
  pub end : HasNoDigit rest

ends_here : (most front n : ℕ) (bytes rest : List ℕ) → HasNoDigit bytes → digits_at most front bytes ≡ Some (n, rest) →
    HasDigits front bytes n rest
ends_here most front n bytes rest end is =
    let parts : (nat_le front most ≡ true) × ((front, bytes) ≡ (n, rest)) =
    cond_some _ _ _ (sym (digits_end most front bytes end) ∙ is) in
    let same : front ≡ n = ap (λ (p : ℕ × List ℕ). p.0) parts.1 in
    let left : bytes ≡ rest = ap (λ (p : ℕ × List ℕ). p.1) parts.1 in
    record {
      digits = [];
      cut = left;
      whole = ap decimal (sym same) ∙ sym (append-nil (decimal front));
      end = subst HasNoDigit left end;
    }

one_more : (most front b n : ℕ) (bytes rest : List ℕ) → 0 < front → n < 2 ^ 64 → front * 10 + (b - 48) ≤ n →
    is_ascii_digit b ≡ true → HasDigits (front * 10 + (b - 48)) bytes n rest → HasDigits front (b ∷ bytes) n rest
one_more most front b n bytes rest some small within digit later =
    let between : (48 ≤ b) × (b ≤ 57) = digit_bounds b digit in
    let whole_front : (front * 10 + (b - 48)) / 10 ≡ front = omega arith in
    let last : 48 + (front * 10 + (b - 48)) % 10 ≡ b = omega arith in
    let step : decimal (front * 10 + (b - 48)) ≡ decimal front ++ (b ∷ []) =
    decimal_step (front * 10 + (b - 48)) (omega arith) (omega arith)
    ∙ ap (λ (m : ℕ). decimal m ++ ((48 + (front * 10 + (b - 48)) % 10) ∷ [])) whole_front
    ∙ ap (λ (m : ℕ). decimal front ++ (m ∷ [])) last in
    record {
      digits = b ∷ later.digits;
      cut = ap (λ (text : List ℕ). b ∷ text) later.cut;
      whole =
          later.whole ∙ ap (λ (text : List ℕ). text ++ later.digits) step
          ∙ append_assoc (decimal front) (b ∷ []) later.digits;
      end = later.end;
    }

-- the digits that were read make the front a number
pub digits_takes : (most front : ℕ) (bytes : List ℕ) (n : ℕ) (rest : List ℕ) → 0 < front → most < 2 ^ 64 →
    digits_at most front bytes ≡ Some (n, rest) → HasDigits front bytes n rest
digits_takes most front [] n rest some small is = ends_here most front n [] rest tt is
digits_takes most front (b ∷ bytes) n rest some small is =
    go (digits_takes most (front * 10 + (b - 48)) bytes n rest) (is_ascii_digit b) refl
  where
    go : (0 < front * 10 + (b - 48) → most < 2 ^ 64 →
        digits_at most (front * 10 + (b - 48)) bytes ≡ Some (n, rest) →
        HasDigits (front * 10 + (b - 48)) bytes n rest) →
        (t : Bool) → is_ascii_digit b ≡ t → HasDigits front (b ∷ bytes) n rest
    go takes false end = ends_here most front n (b ∷ bytes) rest end is
    go takes true digit =
        let later : digits_at most (front * 10 + (b - 48)) bytes ≡ Some (n, rest) =
        digits_more most front b bytes digit ∙ is in
        let between : (front * 10 + (b - 48) ≤ n) × (n ≤ most) =
        digits_between most (front * 10 + (b - 48)) bytes n rest later in
        one_more most front b n bytes rest some (omega arith) between.0 digit (takes (omega arith) small later)

-- the bytes begin with the number's text, behind which no digit stands, and the number is at most so much
pub record IsNumberAt (most : ℕ) (bytes : List ℕ) (n : ℕ) (rest : List ℕ) : Type 0 where
  pub text : bytes ≡ decimal n ++ rest
  pub within : n ≤ most
  pub end : HasNoDigit rest

-- what is read behind a leading 0
zero_parts : (bytes : List ℕ) (n : ℕ) (rest : List ℕ) → zero_at bytes ≡ Some (n, rest) →
    (0 ≡ n) × (bytes ≡ rest) × HasNoDigit bytes
zero_parts [] n rest is = (grind arith, grind arith, tt)
zero_parts (b ∷ bytes) n rest is = go (is_ascii_digit b) refl
  where
    go : (t : Bool) → is_ascii_digit b ≡ t → (0 ≡ n) × (b ∷ bytes ≡ rest) × HasNoDigit (b ∷ bytes)
    go true digit = absurd (none-some _ (sym (ap (λ (u : Bool). cond u None (Some (0, b ∷ bytes))) digit) ∙ is))
    go false end =
        let same : Some (0, b ∷ bytes) ≡ Some (n, rest) =
        sym (ap (λ (u : Bool). cond u None (Some (0, b ∷ bytes))) end) ∙ is in
        let parts : (0 ≡ n) × (b ∷ bytes ≡ rest) = some_pair_parts 0 n (b ∷ bytes) rest same in
        (parts.0, parts.1, end)

zero_takes : (most b : ℕ) (bytes : List ℕ) (n : ℕ) (rest : List ℕ) → b ≡ 48 → zero_at bytes ≡ Some (n, rest) →
    IsNumberAt most (b ∷ bytes) n rest
zero_takes most b bytes n rest glyph is =
    let parts : (0 ≡ n) × (bytes ≡ rest) × HasNoDigit bytes = zero_parts bytes n rest is in
    let zero_text : decimal n ≡ 48 ∷ [] = ap decimal (sym parts.0) ∙ decimal_digit 0 (omega arith) in
    record {
      text =
          ap (λ (m : ℕ). m ∷ bytes) glyph ∙ ap (λ (text : List ℕ). 48 ∷ text) parts.1
          ∙ ap (λ (text : List ℕ). text ++ rest) (sym zero_text);
      within = omega (arith, parts.0);
      end = subst HasNoDigit parts.1 parts.2;
    }

first_takes : (most b : ℕ) (bytes : List ℕ) (n : ℕ) (rest : List ℕ) → most < 2 ^ 64 → is_ascii_digit b ≡ true →
    (b == 48) ≡ false → digits_at most (b - 48) bytes ≡ Some (n, rest) → IsNumberAt most (b ∷ bytes) n rest
first_takes most b bytes n rest small digit other is =
    let between : (48 ≤ b) × (b ≤ 57) = digit_bounds b digit in
    let some : 0 < b - 48 = grind arith in
    let all : HasDigits (b - 48) bytes n rest = digits_takes most (b - 48) bytes n rest some small is in
    let glyph : 48 + (b - 48) ≡ b = omega arith in
    let first : decimal (b - 48) ≡ b ∷ [] =
    decimal_digit (b - 48) (omega arith) ∙ ap (λ (m : ℕ). m ∷ []) glyph in
    record {
      text =
          ap (λ (text : List ℕ). b ∷ text) all.cut
          ∙ ap (λ (text : List ℕ). text ++ rest) (sym (all.whole ∙ ap (λ (text : List ℕ). text ++ all.digits) first));
      within = (digits_between most (b - 48) bytes n rest is).1;
      end = all.end;
    }

-- what is read as a number is so
pub number_takes : (most : ℕ) (bytes : List ℕ) (n : ℕ) (rest : List ℕ) → most < 2 ^ 64 →
    number_at most bytes ≡ Some (n, rest) → IsNumberAt most bytes n rest
unfolding number_at
number_takes most [] n rest small is = cc
number_takes most (b ∷ bytes) n rest small is = go (is_ascii_digit b) (b == 48) refl refl
  where
    go : (t u : Bool) → is_ascii_digit b ≡ t → (b == 48) ≡ u → IsNumberAt most (b ∷ bytes) n rest
    go false u other first =
        absurd (none-some _ (sym
        (ap (λ (t : Bool). cond t (cond u (zero_at bytes) (digits_at most (b - 48) bytes)) None) other)
        ∙ rw first at is))
    go true true digit first = zero_takes most b bytes n rest (eqb-true b 48 first) (rw (digit, first) at is)
    go true false digit first = first_takes most b bytes n rest small digit first (rw (digit, first) at is)
