-- The groups of an address of IPv6, read from left to right.
use Rattle.std.specs.Prelude.{ℕ, ◌+◌, ◌*◌, ◌==◌, if◌then◌else◌, List, [], ◌∷◌, codes, Option, Some, None}
use Rattle.line_fields.specs.Reading.{◌>>=◌, hex_digit, text_at}

-- a hexadecimal digit in lower case
abbrev pub digit_at : List ℕ → Option (ℕ × List ℕ)
digit_at [] = None
digit_at (b ∷ bytes) = do
  digit ← hex_digit b
  Some (digit, bytes)

-- a digit behind those that were read, where one stands there
abbrev pub with_digit : (front : ℕ) → List ℕ → Option (ℕ × List ℕ) → ℕ × List ℕ
with_digit front bytes (Some digit) = (front * 16 + digit.0, digit.1)
with_digit front bytes None = (front, bytes)

abbrev pub more_at : (front : ℕ) → List ℕ → ℕ × List ℕ
more_at front bytes = with_digit front bytes (digit_at bytes)

-- at most three digits more
unfoldable pub rest_at : (front : ℕ) → List ℕ → ℕ × List ℕ
rest_at front bytes =
    let second = more_at front bytes in
    let third = more_at second.0 second.1 in
    more_at third.0 third.1

-- a group: one to four digits; no other stands behind a leading 0
unfoldable pub group_at : List ℕ → Option (ℕ × List ℕ)
group_at bytes = do
  first ← digit_at bytes
  if first.0 == 0 then Some first else Some (rest_at first.0 first.1)

-- four groups with colons
unfoldable pub groups_at : List ℕ → Option (ℕ × List ℕ)
groups_at bytes = do
  first ← group_at bytes
  one ← text_at (codes ":") first.1
  second ← group_at one
  two ← text_at (codes ":") second.1
  third ← group_at two
  three ← text_at (codes ":") third.1
  fourth ← group_at three
  Some (first.0 * 281474976710656 + second.0 * 4294967296 + third.0 * 65536 + fourth.0, fourth.1)
