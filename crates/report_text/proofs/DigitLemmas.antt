-- The digits of a number, where they stand.
use Rattle.std.proofs.Common.{◌≡◌, ℕ, ◌+◌, List, ◌++◌, length, take, drop, sym, ap, ◌∙◌, arith}
use Rattle.std.proofs.Math.Seq.{take-add, take-append_seam}

-- digits that are written so that they begin where a text ends, stand behind it
pub digits_behind : (old new number rest : List ℕ) (at start : ℕ) → start + length number ≡ at + length number →
    drop start new ≡ number ++ rest → take start new ≡ take start old →
    take (at + length number) new ≡ take at old ++ number
digits_behind old new number rest at start same written before =
    let begins : start ≡ at = omega arith in
    take-add at (length number) new
    ∙ ap (λ (n : ℕ). take n new ++ take (length number) (drop n new)) (sym begins)
    ∙ ap (λ (front : List ℕ). front ++ take (length number) (drop start new)) before
    ∙ ap (λ (text : List ℕ). take start old ++ take (length number) text) written
    ∙ ap (λ (text : List ℕ). take start old ++ text) (take-append_seam number rest)
    ∙ ap (λ (n : ℕ). take n old ++ number) begins
