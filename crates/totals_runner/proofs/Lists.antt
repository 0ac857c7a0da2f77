-- Lists: what a filter keeps, sums over a mapped list, and lists that hold the same elements.
use Rattle.std.proofs.Common.{◌≡◌, ◌==◌, ℕ, zero, suc, ◌+◌, ◌<◌, Bool, true, false, cond, not, List, [], ◌∷◌, ◌++◌, map, get_or, refl, sym, ap, subst, ◌∙◌, arith}
use Rattle.std.specs.Prelude.{All, IsPermutation, filter, sum_by}
use Rattle.std.proofs.lemmas.Bool.{eqb-true, eqb-false, ne_eqb}
use Rattle.std.proofs.lemmas.List.Elements.{All-filter, All-head, All-tail, filter_passes}
use Rattle.std.proofs.lemmas.List.Sorted.{IsPermutation-append_right, IsPermutation-filter_both, IsPermutation-refl, IsPermutation-sym, IsPermutation-trans}
use Rattle.std.proofs.lemmas.List.Sums.{sum_by-cons}

-- a filter of a mapped list is a filter that is mapped
pub filter-map : {X Y : Type 0} (p : Y → Bool) (f : X → Y) (xs : List X) →
    filter p (map f xs) ≡ map f (filter (λ (x : X). p (f x)) xs)
filter-map p f [] = refl
filter-map {X = X} p f (x ∷ xs) = go (p (f x)) (filter-map p f xs)
  where
    go : (b : Bool) → filter p (map f xs) ≡ map f (filter (λ (y : X). p (f y)) xs) →
        cond b (f x ∷ filter p (map f xs)) (filter p (map f xs))
        ≡ map f (cond b (x ∷ filter (λ (y : X). p (f y)) xs) (filter (λ (y : X). p (f y)) xs))
    go true same = ap (λ ys. f x ∷ ys) same
    go false same = same

-- two tests that agree on a list keep the same of it
pub filter_same : {X : Type 0} (p q : X → Bool) (xs : List X) → All (λ (x : X). p x ≡ q x) xs →
    filter p xs ≡ filter q xs
filter_same p q [] all = refl
filter_same {X = X} p q (x ∷ xs) all =
    ap (λ b. cond b (x ∷ filter p xs) (filter p xs)) (All-head (λ (y : X). p y ≡ q y) x xs all)
    ∙ ap (λ ys. cond (q x) (x ∷ ys) ys) (filter_same p q xs (All-tail (λ (y : X). p y ≡ q y) x xs all))

-- a filter that keeps no more than another, behind that one
pub filter-filter : {X : Type 0} (p q : X → Bool) → ((x : X) → p x ≡ true → q x ≡ true) → (xs : List X) →
    filter p (filter q xs) ≡ filter p xs
filter-filter p q within [] = refl
filter-filter p q within (x ∷ xs) = go (p x) (q x) refl refl (filter-filter p q within xs)
  where
    go : (a b : Bool) → p x ≡ a → q x ≡ b → filter p (filter q xs) ≡ filter p xs →
        filter p (cond b (x ∷ filter q xs) (filter q xs)) ≡ cond a (x ∷ filter p xs) (filter p xs)
    go true true pa qb same =
        ap (λ c. cond c (x ∷ filter p (filter q xs)) (filter p (filter q xs))) pa ∙ ap (λ ys. x ∷ ys) same
    go false true pa qb same = ap (λ c. cond c (x ∷ filter p (filter q xs)) (filter p (filter q xs))) pa ∙ same
    go false false pa qb same = same
    go true false pa qb same = (let passes : q x ≡ true = within x pa in cc)

-- a sum over a mapped list
pub sum_by-map : {X Y : Type 0} (f : Y → ℕ) (g : X → Y) (xs : List X) →
    sum_by f (map g xs) ≡ sum_by (λ (x : X). f (g x)) xs
sum_by-map f g [] = refl
sum_by-map {X = X} f g (x ∷ xs) =
    sum_by-cons f (g x) (map g xs) ∙ ap (λ n. f (g x) + n) (sum_by-map f g xs)
    ∙ sym (sum_by-cons (λ (y : X). f (g y)) x xs)

-- two terms that agree on a list have one sum over it
pub sum_by_same : {X : Type 0} (f g : X → ℕ) (xs : List X) → All (λ (x : X). f x ≡ g x) xs → sum_by f xs ≡ sum_by g xs
sum_by_same f g [] all = refl
sum_by_same {X = X} f g (x ∷ xs) all =
    let here : f x ≡ g x = All-head (λ (y : X). f y ≡ g y) x xs all in
    let rest : sum_by f xs ≡ sum_by g xs = sum_by_same f g xs (All-tail (λ (y : X). f y ≡ g y) x xs all) in
    omega (arith, here, rest, sum_by-cons f x xs, sum_by-cons g x xs)

-- two maps that agree on a list are one there
pub map_same : {X Y : Type 0} (f g : X → Y) (xs : List X) → All (λ (x : X). f x ≡ g x) xs → map f xs ≡ map g xs
map_same f g [] all = refl
map_same {X = X} f g (x ∷ xs) all =
    ap (λ y. y ∷ map f xs) (All-head (λ (y : X). f y ≡ g y) x xs all)
    ∙ ap (λ ys. g x ∷ ys) (map_same f g xs (All-tail (λ (y : X). f y ≡ g y) x xs all))

-- no element has a class below 0
none_below : {X : Type 0} (class : X → ℕ) (xs : List X) → All (λ (x : X). class x < 0) xs → xs ≡ []
none_below class [] all = refl
none_below {X = X} class (x ∷ xs) all =
    absurd (let less : class x < 0 = All-head (λ (y : X). class y < 0) x xs all in omega (arith, less))

-- of the elements with classes up to n those that are not of class n
module _ {X : Type 0} (class : X → ℕ) (n : ℕ) where
  is_last : X → Bool
  is_last x = class x == n

  others_below : (xs : List X) → All (λ (x : X). class x < suc n) xs →
      All (λ (x : X). class x < n) (filter (λ (x : X). not (class x == n)) xs)
  others_below xs all k d less =
      let y : X = get_or (filter (λ (x : X). not (class x == n)) xs) k d in
      let few : class y < suc n =
      All-filter (λ (x : X). not (class x == n)) (λ (x : X). class x < suc n) xs all k d less in
      let other : not (class y == n) ≡ true = filter_passes (λ (x : X). not (class x == n)) xs k d less in
      below (class y) few other
    where
      below : (c : ℕ) → c < suc n → not (c == n) ≡ true → c < n
      below c few other = go (c == n) refl other
        where
          go : (b : Bool) → (c == n) ≡ b → not b ≡ true → c < n
          go true same passes = absurd (cc)
          go false same passes = (let differs = eqb-false c n same in omega (arith, few, differs))

  others_keep : (xs : List X) (c : ℕ) → c < n →
      filter (λ (x : X). class x == c) (filter (λ (x : X). not (class x == n)) xs)
      ≡ filter (λ (x : X). class x == c) xs
  others_keep xs c less =
      filter-filter (λ (x : X). class x == c) (λ (x : X). not (class x == n)) other xs
    where
      other : (x : X) → (class x == c) ≡ true → not (class x == n) ≡ true
      other x is =
          let same : class x ≡ c = eqb-true (class x) c is in
          ap not (ne_eqb (class x) n (λ last. omega (arith, same, last, less)))

-- two lists that are the same class by class, where there are n classes, hold the same elements
pub permuted_by_class : {X : Type 0} (class : X → ℕ) (n : ℕ) (xs ys : List X) → All (λ (x : X). class x < n) xs →
    All (λ (y : X). class y < n) ys →
    ((c : ℕ) → c < n → filter (λ (x : X). class x == c) xs ≡ filter (λ (y : X). class y == c) ys) → IsPermutation xs ys
permuted_by_class class zero xs ys all_xs all_ys same =
    subst (λ zs. IsPermutation zs ys) (sym (none_below class xs all_xs))
    (subst (λ zs. IsPermutation [] zs) (sym (none_below class ys all_ys)) (IsPermutation-refl []))
permuted_by_class {X = X} class (suc n) xs ys all_xs all_ys same =
    let p : X → Bool = λ x. class x == n in
    let q : X → Bool = λ x. not (class x == n) in
    let rest : IsPermutation (filter q xs) (filter q ys) =
    permuted_by_class class n (filter q xs) (filter q ys) (others_below class n xs all_xs)
    (others_below class n ys all_ys)
    (λ c less. others_keep class n xs c less ∙ same c (omega (arith, less)) ∙ sym (others_keep class n ys c less)) in
    let joined : IsPermutation (filter p xs ++ filter q xs) (filter p ys ++ filter q ys) =
    subst (λ zs. IsPermutation (filter p xs ++ filter q xs) (zs ++ filter q ys)) (same n (omega arith))
    (IsPermutation-append_right (filter p xs) (filter q xs) (filter q ys) rest) in
    IsPermutation-trans xs (filter p xs ++ filter q xs) ys (IsPermutation-filter_both p q (λ x. refl) xs)
    (IsPermutation-trans (filter p xs ++ filter q xs) (filter p ys ++ filter q ys) ys joined
    (IsPermutation-sym ys (filter p ys ++ filter q ys) (IsPermutation-filter_both p q (λ x. refl) ys)))
