-- A written number is read back, and so are the texts that are made of such numbers.
use Rattle.std.proofs.Common.{◌≡◌, ◌≢◌, ◌∙◌, ◌<◌, ◌≤◌, ◌^◌, ℕ, ◌&&◌, cond, true, false, List, [], ◌∷◌, ◌++◌, Some, None}
use Rattle.std.proofs.Common.{ap, ap₂, refl, get_or, arith}
use Rattle.std.proofs.Common.{◌==◌}
use Rattle.std.specs.Fmt.{decimal as written}
use Rattle.std.specs.Int.{IsInRange}
use Rattle.std.specs.List.{All}
use Rattle.std.specs.Str.Parse.{IsNumeral, digits_value, without_leading_plus}
use Rattle.std.proofs.lemmas.Bool.{eq-eqb, ne_eqb}
use Rattle.std.proofs.lemmas.Fmt.{decimal_is_IsNumeral, decimal_nonempty, digits_decimal, digits_value-decimal}
use Rattle.std.proofs.lemmas.Fmt.{length-decimal-le}
use Rattle.std.proofs.lemmas.List.{get_or_default}
use Rattle.std.proofs.lemmas.List.Splits.{slice_split_at, slice_split_none}
use Rattle.std.proofs.lemmas.Str.Parse.{digit_from_value, not_in_digits, without_leading_plus_none}
use Rattle.step_counts.specs.declared.rows.SeatRows.{SeatRows}
use Rattle.clap.specs.Walk.{Text}
use Rattle.command_line.specs.CommandLines.{rows_text}
use Rattle.command_line.specs.Texts.{AreRowsInRange, at_most, comma, is_number, number_between, parts_at}
use Rattle.line_fields.specs.Reading.{◌>>=◌}
use Rattle.command_line.specs.Texts.{rows_in, rows_of}
use Rattle.command_line.specs.Words.{decimal}
use Rattle.command_line.proofs.TextLemmas.{at_most_of, number_is, own}

-- a written number has no sign
no_plus : (digits : List ℕ) → IsNumeral 10 digits → get_or digits 0 0 ≢ 43
no_plus [] h e = absurd (omega arith)
no_plus (d ∷ digits) h e = absurd (omega (arith, digit_from_value d h.1.0))

pub bare : (x : ℕ) → x < 2 ^ 64 → without_leading_plus (written x) ≡ written x
bare x fits = without_leading_plus_none (written x) (no_plus (written x) (decimal_is_IsNumeral x fits).0)

pub read_back : (x : ℕ) → x < 2 ^ 64 → decimal (written x) ≡ x
read_back x fits = ap (digits_value 10) (bare x fits) ∙ (decimal_is_IsNumeral x fits).1

-- ---- numbers of one to ten digits

pub number_written : (x : ℕ) → x < 10 ^ 10 → is_number (written x) ≡ true
number_written x few =
    number_is (written x) (digits_decimal own x (omega arith)) (decimal_nonempty x (omega arith))
    (length-decimal-le 10 x (omega arith) few (omega arith))

in_range : (text : Text) (x least most : ℕ) → is_number text ≡ true → digits_value 10 text ≡ x
    → at_most x least ≡ true → at_most most x ≡ true → number_between least most text ≡ Some x
in_range text x least most is value low high =
    ap₂ (λ b v. cond (b && at_most v least && at_most most v) (Some v) None) is value
    ∙ ap₂ (λ a b. cond (a && b) (Some x) None) low high

pub between_written : (x least most : ℕ) → least ≤ x → x ≤ most → x < 10 ^ 10
    → number_between least most (written x) ≡ Some x
between_written x least most low high few =
    in_range (written x) x least most (number_written x few) (digits_value-decimal own x (omega arith))
    (at_most_of x least low) (at_most_of most x high)

-- ---- texts with commas

pub no_mark : (c x : ℕ) → x < 2 ^ 64 → (IsInRange 48 57 c → ⊥) → All (λ b. (b == c) ≡ false) (written x)
no_mark c x fits out i d inside =
    ne_eqb _ c (λ e. not_in_digits own (written x) c (digits_decimal own x fits) out i inside
    (get_or_default (written x) i 0 d inside ∙ e))

-- the parts of a written number and what follows a mark
comma_after : (x : ℕ) → x < 2 ^ 64 → (more : Text)
    → parts_at comma (written x ++ comma ∷ more) ≡ written x ∷ parts_at comma more
comma_after x fits more =
    slice_split_at (λ b. b == comma) (written x) comma more (no_mark comma x fits (λ r. absurd (omega (arith, r))))
    (eq-eqb comma comma refl)

no_comma_after : (x : ℕ) → x < 2 ^ 64 → parts_at comma (written x) ≡ written x ∷ []
no_comma_after x fits =
    slice_split_none (λ b. b == comma) (written x) (no_mark comma x fits (λ r. absurd (omega (arith, r))))

four_parts : (rows : SeatRows) → AreRowsInRange rows → parts_at comma (rows_text rows)
    ≡ written rows.op_rows ∷ written rows.bucket_rows ∷ written rows.bucket_words ∷ written rows.directory_rows ∷ []
four_parts rows h =
    comma_after rows.op_rows (omega (arith, h.op_rows)) _
    ∙ ap (λ ps. written rows.op_rows ∷ ps) (comma_after rows.bucket_rows (omega (arith, h.bucket_rows)) _
    ∙ ap (λ ps. written rows.bucket_rows ∷ ps) (comma_after rows.bucket_words (omega (arith, h.bucket_words)) _
    ∙ ap (λ ps. written rows.bucket_words ∷ ps) (no_comma_after rows.directory_rows (omega (arith, h.directory_rows)))))

pub rows_text_back : (rows : SeatRows) → AreRowsInRange rows → rows_of (rows_text rows) ≡ Some rows
rows_text_back rows h =
    let a = between_written rows.op_rows 0 100000 (omega arith) h.op_rows (omega (arith, h.op_rows)) in
    let b = between_written rows.bucket_rows 0 100000 (omega arith) h.bucket_rows (omega (arith, h.bucket_rows)) in
    let w = between_written rows.bucket_words 0 100000 (omega arith) h.bucket_words (omega (arith, h.bucket_words)) in
    let d = between_written rows.directory_rows 0 5000 (omega arith) h.directory_rows
    (omega (arith, h.directory_rows)) in
    ap rows_in (four_parts rows h)
    ∙ (λ i. (a i) >>= (λ ops. (b i) >>= (λ buckets. (w i) >>= (λ words. (d i) >>= (λ directories. Some (record {
      op_rows = ops;
      bucket_rows = buckets;
      bucket_words = words;
      directory_rows = directories;
    }))))))
