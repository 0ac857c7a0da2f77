-- The first place at which a pair has a key, and what stands there.
use Rattle.std.proofs.Common.{◌≡◌, ℕ, suc, ◌+◌, Bool, true, false, cond, List, [], ◌∷◌, length, get_or, Option, Some, None, refl, sym, ap, subst, ◌∙◌, arith}
use Rattle.std.specs.Prelude.{nat_lt, not}
use Rattle.std.specs.List.{position, position_or_len}
use Rattle.std.specs.Option.{MatchOption}
use Rattle.std.proofs.lemmas.Bool.Decides.{nat_tests}
use Rattle.plain_map.specs.declared.keys.Key.{Key}
use Rattle.plain_map.specs.declared.keys.Pair.{Pair}
use Rattle.bucket_states.specs.Items.{same_key, value_at, changed_in, with_change, without}
use Rattle.plain_map.specs.Keys.{held_in}
use Rattle.bucket_states.specs.Places.{IsPlaceOf}

-- tests of a place
inside : (m n k : ℕ) → nat_lt n k ≡ true → m ≡ suc n → nat_lt m (suc k) ≡ true
inside m n k is next = grind (arith, nat_tests)

outside : (m n k : ℕ) → nat_lt n k ≡ false → m ≡ suc n → nat_lt m (suc k) ≡ false
outside m n k is next = grind (arith, nat_tests)

at_least : (m k : ℕ) → m ≡ 0 → nat_lt m (suc k) ≡ true
at_least m k first = grind (arith, nat_tests)

module _ (key : Key) where
  abbrev has : Pair → Bool
  has pair = same_key pair.key key

  here : (pair : Pair) (pairs : List Pair) → has pair ≡ true → IsPlaceOf key (pair ∷ pairs) 0
  here pair pairs is = record {
    in_range = omega arith;
    value = λ d. ap (λ b. cond b (Some (held_in pair)) (value_at key pairs)) is;
    rest = ap (λ b. cond b pairs (pair ∷ without key pairs)) is;
    other = λ d change. ap (λ b. cond b (with_change change pair ∷ pairs) (pair ∷ changed_in key change pairs)) is;
  }

  later : (pair : Pair) (pairs : List Pair) (at : ℕ) → has pair ≡ false → IsPlaceOf key pairs at →
      IsPlaceOf key (pair ∷ pairs) (suc at)
  later pair pairs at not_here there = record {
    in_range = omega (arith, there.in_range);
    value = λ d. ap (λ b. cond b (Some (held_in pair)) (value_at key pairs)) not_here ∙ there.value d;
    rest = ap (λ b. cond b pairs (pair ∷ without key pairs)) not_here ∙ ap (λ ps. pair ∷ ps) there.rest;
    other = λ d change.
        ap (λ b. cond b (with_change change pair ∷ pairs) (pair ∷ changed_in key change pairs)) not_here
        ∙ ap (λ ps. pair ∷ ps) (there.other d change);
  }

  none_later : (pair : Pair) (pairs : List Pair) → has pair ≡ false → value_at key pairs ≡ None →
      value_at key (pair ∷ pairs) ≡ None
  none_later pair pairs not_here none = ap (λ b. cond b (Some (held_in pair)) (value_at key pairs)) not_here ∙ none

  -- what is at the first place, or that there is none
  abbrev Placed : List Pair → Option ℕ → Type 0
  Placed pairs r = MatchOption r (value_at key pairs ≡ None) (IsPlaceOf key pairs)

  settled : (pairs : List Pair) (m : ℕ) (t : Bool) → nat_lt m (length pairs) ≡ t → Placed pairs (cond t (Some m) None) →
      Placed pairs (cond (nat_lt m (length pairs)) (Some m) None)
  settled pairs m t is placed = subst (λ (u : Bool). Placed pairs (cond u (Some m) None)) (sym is) placed

  at_next : (pair : Pair) (pairs : List Pair) (n : ℕ) (t : Bool) → nat_lt n (length pairs) ≡ t → has pair ≡ false →
      Placed pairs (cond t (Some n) None)
      → (m : ℕ) → m ≡ suc n → Placed (pair ∷ pairs) (cond (nat_lt m (length (pair ∷ pairs))) (Some m) None)
  at_next pair pairs n true is not_here there m next =
      settled (pair ∷ pairs) m true (inside m n (length pairs) is next)
      (subst (λ (k : ℕ). IsPlaceOf key (pair ∷ pairs) k) (sym next) (later pair pairs n not_here there))
  at_next pair pairs n false is not_here none m next =
      settled (pair ∷ pairs) m false (outside m n (length pairs) is next) (none_later pair pairs not_here none)

  at_first : (pair : Pair) (pairs : List Pair) → has pair ≡ true → (m : ℕ) → m ≡ 0 →
      Placed (pair ∷ pairs) (cond (nat_lt m (length (pair ∷ pairs))) (Some m) None)
  at_first pair pairs is m first =
      settled (pair ∷ pairs) m true (at_least m (length pairs) first)
      (subst (λ (k : ℕ). IsPlaceOf key (pair ∷ pairs) k) (sym first) (here pair pairs is))

  stepped : (pair : Pair) (pairs : List Pair) (n : ℕ) (b : Bool) → has pair ≡ b →
      Placed pairs (cond (nat_lt n (length pairs)) (Some n) None)
      → (m : ℕ) → m ≡ cond (not b) (1 + n) 0 →
      Placed (pair ∷ pairs) (cond (nat_lt m (length (pair ∷ pairs))) (Some m) None)
  stepped pair pairs n true is rest m at = at_first pair pairs is m at
  stepped pair pairs n false is rest m at = at_next pair pairs n (nat_lt n (length pairs)) refl is rest m (omega arith)

  pub placed_at : (pairs : List Pair) → Placed pairs (position has pairs)
  placed_at [] = refl
  placed_at (pair ∷ pairs) =
      stepped pair pairs (position_or_len has pairs) (has pair) refl (placed_at pairs)
      (position_or_len has (pair ∷ pairs)) refl

-- the value that was read at the key's place
pub held_at : (key : Key) (items : List Pair) (at : ℕ) (p : Pair) → IsPlaceOf key items at → p ≡ get_or items at p →
    value_at key items ≡ Some (held_in p)
held_at key items at p place is = place.value p ∙ ap (λ (q : Pair). Some (held_in q)) (sym is)
