-- Lists of views, and events one after the other.
use Rattle.std.proofs.Common.{◌≡◌, ◌≢◌, ℕ, zero, suc, ◌+◌, ◌<◌, Bool, cond, List, [], ◌∷◌, ◌++◌, length, get_or, set, map, inl, inr, refl, sym, ap, ◌∙◌, subst, arith, get_or-set_same, get_or-set_other, length-set}
use Rattle.std.specs.Prelude.{All, sum_by, count_by}
use Rattle.std.proofs.lemmas.Bool.{cases_eq}
use Rattle.std.proofs.lemmas.List.Sums.{sum_by-cons, sum_by-set, get_or-le-sum_by, sum_by-append}
use mathlib.Core.Option.{some, some-injective, some-ne-none}
use lib.ListN.{get_elem?}

-- what stands at a place
pub at_place : {X : Type 0} (xs : List X) (i : ℕ) (x d : X) → get_elem? xs i ≡ some x →
    (i < length xs) × (get_or xs i d ≡ x)
at_place [] i x d e = absurd (some-ne-none x (sym e))
at_place (y ∷ ys) zero x d e = (omega arith, some-injective y x e)
at_place (y ∷ ys) (suc i) x d e = let r = at_place ys i x d e in (omega (arith, r.0), r.1)

-- what stands at a place, mapped
pub elem_map : {X Y : Type 0} (f : X → Y) (xs : List X) (i : ℕ) (x : X) → get_elem? xs i ≡ some x →
    get_elem? (map f xs) i ≡ some (f x)
elem_map f [] i x e = absurd (some-ne-none x (sym e))
elem_map f (y ∷ ys) zero x e = ap some (ap f (some-injective y x e))
elem_map f (y ∷ ys) (suc i) x e = elem_map f ys i x e

-- what was put at a place stands there
pub elem_set : {X : Type 0} (xs : List X) (i : ℕ) (x y : X) → get_elem? xs i ≡ some x →
    get_elem? (set xs i y) i ≡ some y
elem_set [] i x y e = absurd (some-ne-none x (sym e))
elem_set (z ∷ zs) zero x y e = refl
elem_set (z ∷ zs) (suc i) x y e = elem_set zs i x y e

-- where the sum is that of one place alone, it is 0 at every other
module _ {X : Type 0} (f : X → ℕ) where
  -- then it is 0 at each other place
  pub zero_elsewhere : (xs : List X) (i k : ℕ) (none d : X) → f none ≡ 0 → i < length xs → k < length xs → k ≢ i →
      sum_by f xs ≡ f (get_or xs i d) → f (get_or xs k d) ≡ 0
  zero_elsewhere xs i k none d z hi hk ne s =
      let cut = sum_by-set f xs i none d hi in
      let long : length (set xs i none) ≡ length xs = length-set xs i none in
      let le = get_or-le-sum_by f (set xs i none) k d (omega (arith, long, hk)) in
      let same : get_or (set xs i none) k d ≡ get_or xs k d = get_or-set_other xs i k none d ne in
      omega (arith, cut, le, ap f same, s, z)

-- one element changes, and the others keep or change theirs
module _ {X : Type 0} (P : X → Type 0) where
  -- then all keep it
  pub all_but_one : (xs : List X) (i : ℕ) (y : X) → P y →
      ((k : ℕ) (d : X) → k < length xs → k ≢ i → P (get_or xs k d)) → All P (set xs i y)
  all_but_one xs i y p q k d h =
      let long : length (set xs i y) ≡ length xs = length-set xs i y in
      elim (cases_eq k i) [
        | inl is ↦ subst (λ (j : ℕ). P (get_or (set xs i y) j d)) (sym is)
            (subst P (sym (get_or-set_same xs i y d (omega (arith, long, h, is)))) p)
        | inr ne ↦ subst P (sym (get_or-set_other xs i k y d ne)) (q k d (omega (arith, long, h)) ne)
      ]

module _ {E : Type 0} (p : E → Bool) where
  -- one more event is counted where it passes
  pub count-snoc : (es : List E) (e : E) → count_by p (es ++ e ∷ []) ≡ count_by p es + cond (p e) 1 0
  count-snoc es e = sum_by-append (λ x. cond (p x) 1 0) es (e ∷ [])
      ∙ omega (arith, sum_by-cons (λ (x : E). cond (p x) 1 0) e [])
