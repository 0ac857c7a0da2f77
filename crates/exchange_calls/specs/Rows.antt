-- The first of some rows.
use Rattle.std.specs.Prelude.{ℕ, List, [], ◌∷◌, Option, Some, None}

-- the first of them, if there is one
abbrev pub first_of : List ℕ → Option ℕ
first_of [] = None
first_of (row ∷ rows) = Some row
