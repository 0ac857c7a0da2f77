-- Reading from left to right: a field is a value and the bytes behind it, or it is not there.
-- Source: this project's own. A number is std's `decimal`, without leading zeros.
use Rattle.std.specs.Prelude.{◌≡◌, ℕ, ◌+◌, ◌-◌, ◌*◌, ◌==◌, nat_le, if◌then◌else◌, false, List, [], ◌∷◌, Option, Some, None}
use Rattle.std.specs.Char.{is_ascii_digit}
use Rattle.std.specs.Int.{is_in_range}

-- what was read, and then another
infixl 10 ◌>>=◌
abbrev pub ◌>>=◌ : {A B : Type 0} → Option A → (A → Option B) → Option B
(Some x) >>= f = f x
None >>= f = None

-- what a function returned, seen by view, is what reading gives
abbrev pub Gives : {X Y : Type 0} → (X → Y) → Option X → Option Y → Type 0
Gives view (Some x) read = read ≡ Some (view x)
Gives view None read = read ≡ None

-- this text, of which only what is behind it is of use
abbrev pub text_at : (known : List ℕ) → List ℕ → Option (List ℕ)
text_at [] bytes = Some bytes
text_at (k ∷ known) [] = None
text_at (k ∷ known) (b ∷ bytes) = if k == b then text_at known bytes else None

-- a number ends here: no digit stands at the front
abbrev pub HasNoDigit : List ℕ → Type 0
HasNoDigit [] = Unit {0}
HasNoDigit (b ∷ bytes) = is_ascii_digit b ≡ false

-- a number whose front is read, of at most so much
unfoldable pub digits_at : (most front : ℕ) → List ℕ → Option (ℕ × List ℕ)
digits_at most front [] = if nat_le front most then Some (front, []) else None
digits_at most front (b ∷ bytes) =
    if is_ascii_digit b
    then digits_at most (front * 10 + (b - 48)) bytes
    else (if nat_le front most then Some (front, b ∷ bytes) else None)

-- behind a leading 0 no digit stands
abbrev pub zero_at : List ℕ → Option (ℕ × List ℕ)
zero_at [] = Some (0, [])
zero_at (b ∷ bytes) = if is_ascii_digit b then None else Some (0, b ∷ bytes)

-- a number of at most so much, with all its digits
unfoldable pub number_at : (most : ℕ) → List ℕ → Option (ℕ × List ℕ)
number_at most [] = None
number_at most (b ∷ bytes) =
    if is_ascii_digit b then (if b == 48 then zero_at bytes else digits_at most (b - 48) bytes) else None

-- a hexadecimal digit in lower case
abbrev pub hex_digit : ℕ → Option ℕ
hex_digit byte =
    if is_ascii_digit byte then Some (byte - 48) else (if is_in_range 97 102 byte then Some (byte - 97 + 10) else None)

-- a byte as two of them
unfoldable pub hexadecimal_at : List ℕ → Option (ℕ × List ℕ)
hexadecimal_at [] = None
hexadecimal_at (b ∷ []) = None
hexadecimal_at (b ∷ c ∷ bytes) = do
  high ← hex_digit b
  low ← hex_digit c
  Some (high * 16 + low, bytes)
