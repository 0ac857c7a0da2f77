-- The texts of small numbers, and the rows of the table of them.
use Rattle.std.proofs.Common.{◌≡◌, ℕ, ◌+◌, ◌/◌, ◌%◌, ◌^◌, ◌<◌, ◌≤◌, List, [], ◌∷◌, ◌++◌, codes, length, take, get_or, map, cond, ltb, Bool, true, false, ◌-◌, inl, inr, refl, sym, ap, ◌∙◌, length-append, arith, eq-zero-or-pos}
use Rattle.std.specs.Prelude.{decimal}
use Rattle.std.specs.List.{range_with_len}
use Rattle.std.proofs.lemmas.Fmt.{decimal_digit, decimal_step}
use Rattle.std.proofs.lemmas.List.{length-take-le, take-take}
use Rattle.std.proofs.lemmas.Bool.{cond_above, cond_below}
use Rattle.std.proofs.Math.Seq.{take-append-add, take-append_seam}
use Rattle.std.proofs.lemmas.List.FromFn.{get_or-map-range_with_len}
use Rattle.itoa.proofs.Decimal.{length_four}
use Rattle.key_texts.specs.declared.octets.TheConstants.{OCTETS}

-- one digit more
pub length_step : (n : ℕ) → 10 ≤ n → n < 2 ^ 64 → length (decimal n) ≡ length (decimal (n / 10)) + 1
length_step n low high = ap length (decimal_step n low high) ∙ length-append _ _

pub length_1 : (n : ℕ) → n < 10 → length (decimal n) ≡ 1
length_1 n small = ap length (decimal_digit n small)

pub length_2 : (n : ℕ) → 10 ≤ n → n < 100 → length (decimal n) ≡ 2
length_2 n low high = omega (arith, length_step n low (omega arith), length_1 (n / 10) (omega arith))

pub length_3 : (n : ℕ) → 100 ≤ n → n < 1000 → length (decimal n) ≡ 3
length_3 n low high =
    omega (arith, length_step n (omega arith) (omega arith), length_2 (n / 10) (omega arith) (omega arith))

pub length_4 : (n : ℕ) → 1000 ≤ n → n < 10000 → length (decimal n) ≡ 4
length_4 n low high =
    omega (arith, length_step n (omega arith) (omega arith), length_3 (n / 10) (omega arith) (omega arith))

-- eight digits more
pub length_eight_more : (n : ℕ) → 100000000 ≤ n → n < 2 ^ 64 →
    length (decimal n) ≡ length (decimal (n / 100000000)) + 8
length_eight_more n low high =
    let same : n / 10000 / 10000 ≡ n / 100000000 = omega arith in
    let steps : length (decimal n) ≡ length (decimal (n / 10000 / 10000)) + 8 =
    omega (arith, length_four n (omega arith) high, length_four (n / 10000) (omega arith) (omega arith)) in
    steps ∙ ap (λ (m : ℕ). length (decimal m) + 8) same

-- the digits of a number below 1000
digits_2 : (n : ℕ) → 10 ≤ n → n < 100 → decimal n ≡ (48 + n / 10) ∷ (48 + n % 10) ∷ []
digits_2 n low high = rw (decimal_step n low (omega arith), decimal_digit (n / 10) (omega arith))

digits_3 : (n : ℕ) → 100 ≤ n → n < 1000 →
    decimal n ≡ (48 + n / 10 / 10) ∷ (48 + n / 10 % 10) ∷ (48 + n % 10) ∷ []
digits_3 n low high = rw (decimal_step n (omega arith) (omega arith), digits_2 (n / 10) (omega arith) (omega arith))

-- a row of the table: the digits, and dots
abbrev octet_row : ℕ → List ℕ
octet_row n =
    cond (ltb n 10) ((48 + n) ∷ 46 ∷ 46 ∷ 46 ∷ [])
    (cond (ltb n 100) ((48 + n / 10) ∷ (48 + n % 10) ∷ 46 ∷ 46 ∷ [])
    ((48 + n / 10 / 10) ∷ (48 + n / 10 % 10) ∷ (48 + n % 10) ∷ 46 ∷ []))

-- so is each
rows_are : OCTETS ≡ map octet_row (range_with_len 0 256)
rows_are = refl

row_at : (n : ℕ) → n < 256 → get_or OCTETS n [] ≡ octet_row n
row_at n small =
    ap (λ (rows : List (List ℕ)). get_or rows n []) rows_are
    ∙ get_or-map-range_with_len octet_row 0 256 n n [] small (omega arith)

-- so its first bytes are the number's text and a dot
pub octet_dotted : (n : ℕ) → n < 256 → take (length (decimal n) + 1) (get_or OCTETS n []) ≡ decimal n ++ codes "."
octet_dotted n small =
    elim (eq-zero-or-pos (n - 9)) [
      | inl low ↦
          (λ i. take (length_1 n (omega arith) i + 1) ((row_at n small ∙ sym (cond_below n 10 _ _ (omega arith))) i))
          ∙ ap (λ (text : List ℕ). text ++ codes ".") (sym (decimal_digit n (omega arith)))
      | inr more ↦ elim (eq-zero-or-pos (n - 99)) [
        | inl low ↦
            (λ i. take (length_2 n (omega arith) (omega arith) i + 1)
            ((row_at n small ∙ sym (cond_above n 10 _ _ _ (omega arith) (cond_below n 100 _ _ (omega arith)))) i))
            ∙ ap (λ (text : List ℕ). text ++ codes ".") (sym (digits_2 n (omega arith) (omega arith)))
        | inr high ↦
            (λ i. take (length_3 n (omega arith) (omega arith) i + 1)
            ((row_at n small ∙
            sym (cond_above n 10 _ _ _ (omega arith) (cond_above n 100 _ _ _ (omega arith) refl))) i))
            ∙ ap (λ (text : List ℕ). text ++ codes ".") (sym (digits_3 n (omega arith) (omega arith)))
      ]
    ]

-- of which the dot is the last
pub octet_text : (n : ℕ) → n < 256 → take (length (decimal n)) (get_or OCTETS n []) ≡ decimal n
octet_text n small =
    let m : ℕ = length (decimal n) in
    sym (take-take m (m + 1) (get_or OCTETS n []) (omega arith))
    ∙ ap (take m) (octet_dotted n small)
    ∙ take-append_seam (decimal n) (codes ".")

-- a front of what was put after a text
pub put_front : (old row new : List ℕ) (at n m : ℕ) → at ≤ length old → n ≤ length row → at + length row ≡ m →
    take m new ≡ take at old ++ row → take (at + n) new ≡ take at old ++ take n row
put_front old row new at n m inside few whole put =
    let front : List ℕ = take at old in
    let long : length front ≡ at = length-take-le at old inside in
    sym (take-take (at + n) m new (omega arith))
    ∙ ap (take (at + n)) put
    ∙ ap (λ (k : ℕ). take (k + n) (front ++ row)) (sym long)
    ∙ take-append-add front row n

-- which has four
pub octet_long : (n : ℕ) → n < 256 → length (get_or OCTETS n []) ≡ 4
octet_long n small = ap length (row_at n small) ∙ chosen (ltb n 10) (ltb n 100) _ _ _ refl refl refl
  where
    chosen : (a b : Bool) (x y z : List ℕ) → length x ≡ 4 → length y ≡ 4 → length z ≡ 4 →
        length (cond a x (cond b y z)) ≡ 4
    chosen true b x y z p q r = p
    chosen false true x y z p q r = q
    chosen false false x y z p q r = r
