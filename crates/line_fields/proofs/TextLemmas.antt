-- A text that is known, read.
use Rattle.std.proofs.Common.{◌≡◌, ℕ, nat_eq, true, false, List, [], ◌∷◌, ◌++◌, length, take, drop, Some, None, refl, arith}
use Rattle.std.specs.Cmp.Lexicographic.{pointwise}
use Rattle.line_fields.specs.Reading.{text_at}

-- what is behind a text that stands there
pub text_again : (known rest : List ℕ) → text_at known (known ++ rest) ≡ Some rest
text_again [] rest = refl
text_again (k ∷ known) rest = grind (arith, text_again known rest)

-- the text stands there
pub text_takes : (known bytes rest : List ℕ) → text_at known bytes ≡ Some rest → bytes ≡ known ++ rest
text_takes [] bytes rest is = grind arith
text_takes (k ∷ known) [] rest is = cc
text_takes (k ∷ known) (b ∷ bytes) rest is = grind (arith, text_takes known bytes rest)

-- a front that is compared with the text: it is the text
pub prefix_same : (known bytes : List ℕ) → pointwise nat_eq (take (length known) bytes) known ≡ true →
    text_at known bytes ≡ Some (drop (length known) bytes)
prefix_same [] bytes same = refl
prefix_same (k ∷ known) [] same = cc
prefix_same (k ∷ known) (b ∷ bytes) same = grind (arith, prefix_same known bytes)

-- or it is not
pub prefix_other : (known bytes : List ℕ) → pointwise nat_eq (take (length known) bytes) known ≡ false →
    text_at known bytes ≡ None
prefix_other [] bytes other = cc
prefix_other (k ∷ known) [] other = refl
prefix_other (k ∷ known) (b ∷ bytes) other = grind (arith, prefix_other known bytes)
