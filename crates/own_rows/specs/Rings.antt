-- Lists of numbers, linked as rings.
use Rattle.std.specs.Prelude.{◌≡◌, ℕ, ◌+◌, ◌==◌, cond, List, [], ◌∷◌, map}

-- how often a number stands in a list
abbrev pub count : List ℕ → (k : ℕ) → ℕ
count [] k = 0
count (x ∷ xs) k = cond (x == k) 1 0 + count xs k

-- from a number by these to an end, each linked to the next one
abbrev pub Path : (next : ℕ → ℕ) → List ℕ → (from end : ℕ) → Type 0
Path next [] from end = next from ≡ end
Path next (x ∷ xs) from end = (next from ≡ x) × Path next xs x end

-- the last of them, or the number from which they come
abbrev pub last_of : List ℕ → (from : ℕ) → ℕ
last_of [] from = from
last_of (x ∷ xs) from = last_of xs x

-- a ring begins and ends at its hook, which stands for no row
abbrev pub Ring : (next : ℕ → ℕ) → List ℕ → (hook : ℕ) → Type 0
Ring next xs hook = Path next xs hook hook

-- the rows of these pairs, each a row and its bucket
abbrev pub numbers : List (ℕ × ℕ) → List ℕ
numbers rows = map (λ row. row.0) rows
