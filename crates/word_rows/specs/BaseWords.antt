-- How the number of the row that a row was made from is spelled: one more than it, or 0 for none.
use Rattle.std.specs.Prelude.{ℕ, ◌+◌, ◌-◌, ◌^◌, ◌<◌, ◌==◌, if◌then◌else◌, Option, Some, None, IfSome}

-- a number that has a word
abbrev pub IsBase : Option ℕ → Type 0
IsBase base = IfSome base (λ row. row + 1 < 2 ^ 64)

-- the word of a base
abbrev pub word_of_base : Option ℕ → ℕ
word_of_base None = 0
word_of_base (Some row) = row + 1

-- the base that a word spells
abbrev pub base_of_word : ℕ → Option ℕ
base_of_word word = if word == 0 then None else Some (word - 1)
