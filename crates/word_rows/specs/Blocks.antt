-- Lists of words that are made of parts of one length.
use Rattle.std.specs.Prelude.{ℕ, zero, suc, ◌*◌, List, [], ◌++◌, take, drop, map}
use Rattle.std.specs.List.{range_with_len}

-- the first parts, one after the other
unfoldable pub blocks : (ℕ → List ℕ) → ℕ → List ℕ
blocks part zero = []
blocks part (suc n) = blocks part n ++ part n

-- the i-th part of this width
abbrev pub block : (width i : ℕ) → List ℕ → List ℕ
block width i words = take width (drop (i * width) words)

-- the first values of a function
abbrev pub first_values : {A : Type 0} → (ℕ → A) → ℕ → List A
first_values f n = map f (range_with_len 0 n)
