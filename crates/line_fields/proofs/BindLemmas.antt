-- One thing read, and then another.
use Rattle.std.proofs.Common.{◌≡◌, ℕ, ◌^◌, ◌<◌, ◌++◌, List, Option, Some, None, refl}
use Rattle.std.proofs.lemmas.Option.{none-some}
use Rattle.line_fields.specs.Reading.{◌>>=◌, number_at, text_at}
use Rattle.line_fields.proofs.NumberLaws.{IsNumberAt, number_takes}
use Rattle.line_fields.proofs.TextLemmas.{text_takes}

-- what is read in two steps is read in each
pub bind_some : {A B : Type 0} (o : Option A) (f : A → Option B) (y : B) → (o >>= f) ≡ Some y →
    (x : A) × (o ≡ Some x) × (f x ≡ Some y)
bind_some (Some x) f y is = (x, refl, is)
bind_some None f y is = absurd (none-some y is)

-- a number stands there, and behind it what was read then
pub record NumberThen {B : Type 0} (most : ℕ) (bytes : List ℕ) (f : ℕ × List ℕ → Option B) (y : B) : Type 0 where
  pub number : ℕ
  pub left : List ℕ
  pub at : IsNumberAt most bytes number left
  pub then : f (number, left) ≡ Some y

pub number_then : {B : Type 0} (most : ℕ) (bytes : List ℕ) (f : ℕ × List ℕ → Option B) (y : B) → most < 2 ^ 64 →
    (number_at most bytes >>= f) ≡ Some y → NumberThen most bytes f y
number_then most bytes f y small is =
    let step = bind_some (number_at most bytes) f y is in
    record {
      number = step.0.0;
      left = step.0.1;
      at = number_takes most bytes step.0.0 step.0.1 small step.1;
      then = step.2;
    }

-- a text stands there, and behind it what was read then
pub record TextThen {B : Type 0} (known bytes : List ℕ) (f : List ℕ → Option B) (y : B) : Type 0 where
  pub left : List ℕ
  pub at : bytes ≡ known ++ left
  pub then : f left ≡ Some y

pub text_then : {B : Type 0} (known bytes : List ℕ) (f : List ℕ → Option B) (y : B) →
    (text_at known bytes >>= f) ≡ Some y → TextThen known bytes f y
text_then known bytes f y is =
    let step = bind_some (text_at known bytes) f y is in
    record { left = step.0; at = text_takes known bytes step.0 step.1; then = step.2 }
