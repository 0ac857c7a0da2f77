-- Tests of each number of a range, from the first on.
use Rattle.std.proofs.Common.{◌≡◌, ℕ, suc, ◌+◌, ◌-◌, ◌≤◌, arith, Bool, true, false, cond, List, [], ◌++◌, Some, None, ap, ◌∙◌}
use Rattle.std.specs.Prelude.{◌&&◌, find, flat_map}
use Rattle.std.specs.List.{list_all, range_with_len}

-- a number that passes leaves the rest
pub range_goes : (f : ℕ → Bool) (from left left_then : ℕ) → left ≡ suc left_then → f from ≡ true →
    list_all f (range_with_len from left) ≡ list_all f (range_with_len (from + 1) left_then)
range_goes f from left left_then is holds =
    ap (λ (n : ℕ). list_all f (range_with_len from n)) is
    ∙ ap (λ (b : Bool). b && list_all f (range_with_len (from + 1) left_then)) holds

-- one that does not settles it
pub range_stops : (f : ℕ → Bool) (from left left_then : ℕ) → left ≡ suc left_then → f from ≡ false →
    list_all f (range_with_len from left) ≡ false
range_stops f from left left_then is fails =
    ap (λ (n : ℕ). list_all f (range_with_len from n)) is
    ∙ ap (λ (b : Bool). b && list_all f (range_with_len (from + 1) left_then)) fails

-- the first that passes is here
pub find_here : (f : ℕ → Bool) (from left left_then : ℕ) → left ≡ suc left_then → f from ≡ true →
    find f (range_with_len from left) ≡ Some from
find_here f from left left_then is holds =
    ap (λ (n : ℕ). find f (range_with_len from n)) is
    ∙ ap (λ (b : Bool). cond b (Some from) (find f (range_with_len (from + 1) left_then))) holds

-- or further on
pub find_later : (f : ℕ → Bool) (from left left_then : ℕ) → left ≡ suc left_then → f from ≡ false →
    find f (range_with_len from left) ≡ find f (range_with_len (from + 1) left_then)
find_later f from left left_then is fails =
    ap (λ (n : ℕ). find f (range_with_len from n)) is
    ∙ ap (λ (b : Bool). cond b (Some from) (find f (range_with_len (from + 1) left_then))) fails

-- at the end all have passed
pub all_ends : (f : ℕ → Bool) (from end : ℕ) → end ≤ from → true ≡ list_all f (range_with_len from (end - from))
all_ends f from end past = ap (λ (n : ℕ). list_all f (range_with_len from n)) (let none : 0 ≡ end - from = omega arith
    in none)

-- and none was found
pub find_ends : (f : ℕ → Bool) (from end : ℕ) → end ≤ from → None ≡ find f (range_with_len from (end - from))
find_ends f from end past = ap (λ (n : ℕ). find f (range_with_len from n)) (let none : 0 ≡ end - from = omega arith in
    none)

-- and nothing more comes
pub flat_ends : {B : Type 0} → (f : ℕ → List B) (from end : ℕ) → end ≤ from →
    [] ≡ flat_map f (range_with_len from (end - from))
flat_ends f from end past = ap (λ (n : ℕ). flat_map f (range_with_len from n))
    (let none : 0 ≡ end - from = omega arith in none)

-- what comes of a number stands before what comes of the rest
pub flat_goes : {B : Type 0} → (f : ℕ → List B) (from left left_then : ℕ) → left ≡ suc left_then →
    flat_map f (range_with_len from left) ≡ f from ++ flat_map f (range_with_len (from + 1) left_then)
flat_goes f from left left_then is = ap (λ (n : ℕ). flat_map f (range_with_len from n)) is
