-- A line, word by word, with what is behind it: the form in which it is read.
use Rattle.std.proofs.Common.{◌≡◌, ℕ, codes, List, [], ◌∷◌, ◌++◌, refl, ap, ◌∙◌, append_assoc}
use Rattle.report_text.specs.Lines.{line, spaced}

-- each word after a space, a line feed, and what is behind
abbrev pub behind : List (List ℕ) → List ℕ → List ℕ
behind [] rest = 10 ∷ rest
behind (word ∷ words) rest = 32 ∷ (word ++ behind words rest)

spaced_behind : (words : List (List ℕ)) (rest : List ℕ) → (spaced words ++ codes "\n") ++ rest ≡ behind words rest
unfolding spaced
spaced_behind [] rest = refl
spaced_behind (word ∷ words) rest =
    ap (λ (text : List ℕ). 32 ∷ text)
    (ap (λ (text : List ℕ). text ++ rest) (append_assoc word (spaced words) (codes "\n"))
    ∙ append_assoc word (spaced words ++ codes "\n") rest
    ∙ ap (λ (text : List ℕ). word ++ text) (spaced_behind words rest))

pub line_behind : (first : List ℕ) (words : List (List ℕ)) (rest : List ℕ) →
    line (first ∷ words) ++ rest ≡ first ++ behind words rest
unfolding line
line_behind first words rest =
    append_assoc first (spaced words ++ codes "\n") rest
    ∙ ap (λ (text : List ℕ). first ++ text) (spaced_behind words rest)
