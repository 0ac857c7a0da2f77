-- A line has one line feed, at its end.
use Rattle.std.proofs.Common.{◌≡◌, ℕ, ◌+◌, ◌%◌, ◌^◌, ◌<◌, ◌==◌, false, List, [], ◌∷◌, ◌++◌, refl, sym, ◌∙◌, arith}
use Rattle.std.specs.Prelude.{decimal}
use Rattle.std.proofs.lemmas.Fmt.{decimal_by_steps}
use Rattle.std.proofs.lemmas.Bool.{eq-eqb, true≢false}

-- no line feed in it
abbrev pub HasNoFeed : List ℕ → Type 0
HasNoFeed [] = Unit {0}
HasNoFeed (b ∷ bytes) = ((b == 10) ≡ false) × HasNoFeed bytes

pub no_feed-append : (xs ys : List ℕ) → HasNoFeed xs → HasNoFeed ys → HasNoFeed (xs ++ ys)
no_feed-append [] ys x y = y
no_feed-append (b ∷ xs) ys x y = (x.0, no_feed-append xs ys x.1 y)

digit_no_feed : (n : ℕ) → n < 10 → (48 + n == 10) ≡ false
digit_no_feed n small = grind arith

-- a number has none
pub no_feed-decimal : (n : ℕ) → n < 2 ^ 64 → HasNoFeed (decimal n)
no_feed-decimal n small =
    decimal_by_steps (λ (n : ℕ) (text : List ℕ). HasNoFeed text) (λ n digit. (digit_no_feed n digit, tt))
    (λ n text large before. no_feed-append text ((48 + n % 10) ∷ []) before
    (digit_no_feed (n % 10) (omega arith), tt)) n small

-- two texts without a line feed that are cut by one at the same place are one text
pub cut_once : (xs ys front back : List ℕ) → HasNoFeed xs → HasNoFeed ys → xs ++ (10 ∷ front) ≡ ys ++ (10 ∷ back) →
    (xs ≡ ys) × (front ≡ back)
cut_once [] [] front back x y same = (refl, cc)
cut_once [] (b ∷ ys) front back x y same =
    let head : 10 ≡ b = cc in
    absurd (true≢false (sym (eq-eqb b 10 (sym head)) ∙ y.0))
cut_once (a ∷ xs) [] front back x y same =
    let head : a ≡ 10 = cc in
    absurd (true≢false (sym (eq-eqb a 10 head) ∙ x.0))
cut_once (a ∷ xs) (b ∷ ys) front back x y same =
    let head : a ≡ b = cc in
    let tails : xs ++ (10 ∷ front) ≡ ys ++ (10 ∷ back) = cc in
    let later : (xs ≡ ys) × (front ≡ back) = cut_once xs ys front back x.1 y.1 tails in
    (cc, later.1)
