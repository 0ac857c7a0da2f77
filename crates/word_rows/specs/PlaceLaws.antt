-- What every proof about a table's words rests on, in place of arithmetic.
use Rattle.std.specs.Prelude.{◌≡◌, ℕ, ◌^◌, ◌<◌, ◌≤◌}
use Rattle.plain_map.specs.declared.full.FullKind.{FullKind}
use Rattle.word_rows.specs.Shape.{Shape, IsShape, Owns, record_limit, of_kind, opening_rows, count_of}
use Rattle.word_rows.specs.Places.{Address, IsAddress, place, word_count}

-- distinct addresses have distinct words
abbrev pub PlacesAreApart : Type 0
PlacesAreApart = (shape : Shape) (a b : Address) → IsAddress shape a → IsAddress shape b →
    place shape a ≡ place shape b → a ≡ b

-- each address has one of the table's words
abbrev pub PlacesAreWithin : Type 0
PlacesAreWithin = (shape : Shape) (a : Address) → IsAddress shape a → place shape a < word_count shape

-- a number belongs to one seat at most
abbrev pub RangesAreApart : Type 0
RangesAreApart =
    (shape : Shape) (kind : FullKind) (number s t : ℕ) → s < shape.settings.seats → t < shape.settings.seats →
    IsShape shape → Owns shape s kind number → Owns shape t kind number → s ≡ t

-- a seat's number is none of the opening's, and is one of those that there are
abbrev pub RangesAreWithin : Type 0
RangesAreWithin =
    (shape : Shape) (kind : FullKind) (number seat : ℕ) → seat < shape.settings.seats → IsShape shape →
    Owns shape seat kind number →
    (of_kind kind (opening_rows shape.settings) ≤ number) × (number < count_of shape kind)

-- word numbers are small
abbrev pub WordsAreFew : Type 0
WordsAreFew = (shape : Shape) → IsShape shape → shape.limit ≤ record_limit → word_count shape < 2 ^ 52
