-- What the readers of single texts find is what the definitions say.
use Rattle.std.proofs.Common.{◌≡◌, ◌≢◌, ◌∙◌, ◌<◌, ◌≤◌, ◌^◌, ◌&&◌, ℕ, Bool, true, false, cond, length, Some}
use Rattle.std.proofs.Common.{None}
use Rattle.std.proofs.Common.{Result, Ok, Err, ap, ap₂, refl, sym, get_or, arith, nat_lt}
use Rattle.std.proofs.lemmas.Bool.Decides.{nat_tests}
use Rattle.std.proofs.lemmas.Str.Parse.{IsNumeralModel, digits_value_short, numerals_by_value}
use Rattle.std.proofs.lemmas.Str.Parse.{parse_plain, tells_all_ascii_digits}
use Rattle.std.specs.Bool.{Decides}
use Rattle.std.specs.Result.{OkIff, result_ok}
use Rattle.std.specs.Str.{all_ascii_digits}
use Rattle.std.specs.Str.Parse.{ParsesUnsigned, digits_value}
use Rattle.std.proofs.lemmas.Bool.{and_parts, lt-ltb}
use Rattle.clap.specs.Walk.{Text}
use Rattle.command_line.specs.Texts.{at_most, is_number}

-- decimal digits, and the number that they write
pub own : IsNumeralModel (λ ds. all_ascii_digits ds ≡ true) (digits_value 10)
own = numerals_by_value (λ ds. all_ascii_digits ds ≡ true) tells_all_ascii_digits

pub at_most_of : (most n : ℕ) → n ≤ most → at_most most n ≡ true
at_most_of most n low = grind (arith, nat_tests)

all_three : {a b c : Bool} → a ≡ true → b ≡ true → c ≡ true → (a && b && c) ≡ true
all_three e f g = ap₂ (λ x y. x && y) (ap₂ (λ x y. x && y) e f) g

-- one to ten digits are a number
pub number_is : (text : Text) → all_ascii_digits text ≡ true → 0 < length text → length text ≤ 10
    → is_number text ≡ true
number_is text digits some few =
    all_three digits (lt-ltb 0 (length text) some) (at_most_of 10 (length text) few)

-- ---- a number that is read

at_most_says : (most n : ℕ) → at_most most n ≡ true → n ≤ most
at_most_says most n says = grind (arith, nat_tests)

lt_says : (m n : ℕ) → nat_lt m n ≡ true → m < n
lt_says m n says = grind (arith, nat_tests)

-- what is told of a number
pub number_says : (text : Text) → is_number text ≡ true
    → (all_ascii_digits text ≡ true) × (0 < length text) × (length text ≤ 10)
number_says text is =
    let one = and_parts _ _ is in
    let two = and_parts _ _ one.0 in
    (two.0, lt_says 0 (length text) two.1, at_most_says 10 (length text) one.1)

no_number : (text : Text) (b : Bool) → is_number text ≡ b → (b ≡ true → ⊥)
    → None ≡ cond (is_number text) (Some (digits_value 10 text)) None
no_number text true is bad = absurd (bad refl)
no_number text false is bad = ap (λ c. cond c (Some (digits_value 10 text)) None) (sym is)

read_by : {E : Type 0} (text : Text) (r : Result ℕ E) → length text ≤ 10
    → OkIff r ((all_ascii_digits text ≡ true) × (0 < length text) × (digits_value 10 text < 2 ^ 64))
    (digits_value 10 text)
    → result_ok r ≡ cond (is_number text) (Some (digits_value 10 text)) None
read_by text (Ok x) few told =
    ap (λ (n : ℕ). Some n) told.1
    ∙ ap (λ b. cond b (Some (digits_value 10 text)) None) (sym (number_is text told.0.0 told.0.1 few))
read_by text (Err e) few told =
    no_number text (is_number text) refl (λ is. told (let says = number_says text is in
    let short = digits_value_short own text 10 says.0 few in
    (says.0, says.1, omega (arith, short))))

pub number_read : {E : Type 0} (text : Text) (r : Result ℕ E) → ParsesUnsigned 64 10 text r → get_or text 0 0 ≢ 43
    → length text ≤ 10 → result_ok r ≡ cond (is_number text) (Some (digits_value 10 text)) None
number_read text r parses plain few = read_by text r few (parse_plain own 64 text r parses plain)

-- a test that is false
pub unsigned : (r : Bool) (P : Type 0) → Decides r P → r ≡ false → P → ⊥
unsigned true P decides is holds = cc
unsigned false P decides is holds = let bad = decides.1 holds in cc
