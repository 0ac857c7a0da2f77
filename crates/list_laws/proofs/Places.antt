-- Members of a list and the places at which they stand, and what holds of all of them.
use Rattle.std.proofs.Common.{◌≡◌, ℕ, zero, suc, ◌<◌, List, [], ◌∷◌, length, get_or, Some, refl, inl, inr, sym, subst, arith, ◌+◌, ◌++◌, length-append}
use Rattle.std.specs.Prelude.{IfSome, IsPermutation, slice_get}
use Rattle.std.specs.List.{All}
use Rattle.std.proofs.lemmas.List.Elements.{All-nil, All-cons, All-head, All-tail}
use Rattle.std.proofs.lemmas.List.Sorted.{All-permutation}
use Rattle.std.proofs.lemmas.List.{get_or_append_left, get_or-append-add}
use Rattle.list_laws.proofs.Lists.{In}

-- what stands at a place is a member
pub in_at : {A : Type 0} (xs : List A) (i : ℕ) (d : A) → i < length xs → In (get_or xs i d) xs
in_at [] i d h = absurd (omega (arith, h))
in_at (x ∷ xs) zero d h = inl refl
in_at (x ∷ xs) (suc i) d h = inr (in_at xs i d (omega (arith, h)))

-- and so is a number
pub number_in : (xs : List ℕ) (i : ℕ) → i < length xs → In (get_or xs i 0) xs
number_in xs i h = in_at xs i 0 h

-- a number that is a member stands at a place
pub place_in : (xs : List ℕ) (x : ℕ) → In x xs → (i : ℕ) × (i < length xs) × (get_or xs i 0 ≡ x)
place_in [] x i = elim i [ ]
place_in (y ∷ xs) x (inl e) = (0, omega arith, sym e)
place_in (y ∷ xs) x (inr j) = (let r = place_in xs x j in (suc r.0, omega (arith, r.1), r.2))

-- something stands at each place
pub stands_there : {A : Type 0} → (xs : List A) (i : ℕ) → i < length xs → (x : A) × (slice_get xs i ≡ Some x)
stands_there [] i h = absurd (omega (arith, h))
stands_there (x ∷ xs) zero h = (x, refl)
stands_there (x ∷ xs) (suc i) h = stands_there xs i (omega (arith, h))

-- what holds of what is there at an index
pub at_index : {A : Type 0} (P : A → Type 0) (xs : List A) (i : ℕ) (d : A) → i < length xs →
    IfSome (slice_get xs i) P → P (get_or xs i d)
at_index P [] i d lt h = absurd (omega (arith, lt))
at_index P (x ∷ xs) zero d lt h = h
at_index P (x ∷ xs) (suc i) d lt h = at_index P xs i d (omega (arith, lt)) h

-- what holds of each member holds of all
pub all_in : {A : Type 0} → (P : A → Type 0) (xs : List A) → ((x : A) → In x xs → P x) → All P xs
all_in P [] h = All-nil P
all_in P (x ∷ xs) h = All-cons P x xs (h x (inl refl)) (all_in P xs (λ y i. h y (inr i)))

-- and what holds of all holds of each member
pub in_all : {A : Type 0} → (P : A → Type 0) (xs : List A) (x : A) → All P xs → In x xs → P x
in_all P [] x a i = elim i [ ]
in_all P (y ∷ xs) x a (inl is) = subst P (sym is) (All-head P y xs a)
in_all P (y ∷ xs) x a (inr i) = in_all P xs x (All-tail P y xs a) i

-- members stay members in another order
pub in_other_order : {A : Type 0} (xs ys : List A) (x : A) → IsPermutation xs ys → In x ys → In x xs
in_other_order xs ys x same i =
    in_all (λ y. In y xs) ys x (All-permutation (λ y. In y xs) xs ys same (all_in (λ y. In y xs) xs (λ y j. j))) i

-- what holds of all of two lists holds of all of the first
pub All-left : {X : Type 0} (P : X → Type 0) (xs ys : List X) → All P (xs ++ ys) → All P xs
All-left P xs ys all k d less =
    subst P (get_or_append_left xs ys d k less) (all k d (omega (arith, less, length-append xs ys)))

-- and of all of the other
pub All-right : {X : Type 0} (P : X → Type 0) (xs ys : List X) → All P (xs ++ ys) → All P ys
All-right P xs ys all k d less =
    subst P (get_or-append-add xs ys k d) (all (length xs + k) d (omega (arith, less, length-append xs ys)))
