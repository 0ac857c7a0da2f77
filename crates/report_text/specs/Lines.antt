-- How a line of the report is spelled: words with one space between, ended by one line feed.
-- Source: docs/FORMATS.md, the report. A text is the list of its ASCII codes, and a number is decimal.
use Rattle.std.specs.Prelude.{◌≡◌, ℕ, ◌/◌, ◌%◌, false, List, [], ◌∷◌, ◌++◌, ◌-◌, codes, decimal, flat_map, take}
use Rattle.std.specs.List.{join_by}
use Rattle.std.specs.Fmt.{digit_glyph}
use Rattle.report_text.specs.declared.line.Line.{Line}
use Rattle.report_text.specs.declared.line.TheConstants.{LINE_ROOM}

-- each word after a space
unfoldable pub spaced : List (List ℕ) → List ℕ
spaced words = flat_map (λ word. codes " " ++ word) words

-- the words as a line
unfoldable pub line : List (List ℕ) → List ℕ
line [] = codes "\n"
line (word ∷ words) = word ++ (spaced words ++ codes "\n")

-- the text grew by the words, each after a space
pub record Puts (old : List ℕ) (words : List (List ℕ)) (new : List ℕ) : Type 0 where
  pub appended : new ≡ old ++ spaced words

-- the text grew by the first word of a line
pub record Begins (old first new : List ℕ) : Type 0 where
  pub appended : new ≡ old ++ first

-- the text grew by the end of a line
pub record Ends (old new : List ℕ) : Type 0 where
  pub appended : new ≡ old ++ codes "\n"

-- the counts of the first n seats, with commas between
unfoldable pub counts_word : ℕ → List ℕ → List ℕ
counts_word n counts = join_by decimal (codes ",") (take n counts)

-- each byte as two hexadecimal digits in lower case
unfoldable pub hexadecimal : List ℕ → List ℕ
hexadecimal bytes = flat_map (λ byte. digit_glyph false (byte / 16) ∷ digit_glyph false (byte % 16) ∷ []) bytes

-- the text of a line that is being written
unfoldable pub text_in : Line → List ℕ
text_in line = take line.length line.bytes

-- how many more bytes it takes
unfoldable pub room : Line → ℕ
room line = LINE_ROOM - line.length
