-- What comes of each element of a list comes, in another order, of the list in another order.
use Rattle.std.proofs.Common.{ℕ, zero, suc, ◌<◌, List, [], ◌∷◌, ◌++◌, length, get_or, set, ◌≡◌, sym, subst, append_assoc, arith}
use Rattle.std.specs.Prelude.{flat_map, IsPermutation}
use Rattle.std.specs.List.{swap}
use Rattle.std.proofs.lemmas.List.Sorted.{IsPermutation-append_comm, IsPermutation-append_left, IsPermutation-append_right, IsPermutation-keeps, IsPermutation-refl, IsPermutation-trans}

module _ {A B : Type 0} (f : A → List B) where
  -- the first two parts change places
  firsts_change : (us vs rest : List B) → IsPermutation (us ++ (vs ++ rest)) (vs ++ (us ++ rest))
  firsts_change us vs rest =
      subst (λ zs. IsPermutation zs (vs ++ (us ++ rest))) (append_assoc us vs rest)
      (subst (IsPermutation ((us ++ vs) ++ rest)) (append_assoc vs us rest)
      (IsPermutation-append_left rest (us ++ vs) (vs ++ us) (IsPermutation-append_comm us vs)))

  -- an element in front changes places with one behind
  front_changes : (xs : List A) (j : ℕ) (x d : A) → j < length xs →
      IsPermutation (f x ++ flat_map f xs) (f (get_or xs j d) ++ flat_map f (set xs j x))
  front_changes [] j x d within = absurd (omega (arith, within))
  front_changes (y ∷ xs) zero x d within = firsts_change (f x) (f y) (flat_map f xs)
  front_changes (y ∷ xs) (suc j) x d within =
      let z : A = get_or xs j d in
      let rest : List B = flat_map f (set xs j x) in
      IsPermutation-trans (f x ++ (f y ++ flat_map f xs)) (f y ++ (f x ++ flat_map f xs)) (f z ++ (f y ++ rest))
      (firsts_change (f x) (f y) (flat_map f xs))
      (IsPermutation-trans (f y ++ (f x ++ flat_map f xs)) (f y ++ (f z ++ rest)) (f z ++ (f y ++ rest))
      (IsPermutation-append_right (f y) (f x ++ flat_map f xs) (f z ++ rest)
      (front_changes xs j x d (omega (arith, within))))
      (firsts_change (f y) (f z) rest))

  -- any two do
  two_change : (xs : List A) (i j : ℕ) (d : A) → i < length xs → j < length xs →
      IsPermutation (flat_map f xs) (flat_map f (set (set xs i (get_or xs j d)) j (get_or xs i d)))
  two_change [] i j d one other = absurd (omega (arith, one))
  two_change (x ∷ xs) zero zero d one other = IsPermutation-refl (flat_map f (x ∷ xs))
  two_change (x ∷ xs) zero (suc j) d one other = front_changes xs j x d (omega (arith, other))
  two_change (x ∷ xs) (suc i) zero d one other = front_changes xs i x d (omega (arith, one))
  two_change (x ∷ xs) (suc i) (suc j) d one other =
      IsPermutation-append_right (f x) (flat_map f xs) (flat_map f (set (set xs i (get_or xs j d)) j (get_or xs i d)))
      (two_change xs i j d (omega (arith, one)) (omega (arith, other)))

  swap_changes : (xs : List A) (i j : ℕ) → i < length xs → j < length xs →
      IsPermutation (flat_map f xs) (flat_map f (swap xs i j))
  swap_changes [] i j one other = absurd (omega (arith, one))
  swap_changes (d ∷ xs) i j one other = two_change (d ∷ xs) i j d one other

  pub flat_map-permuted : (xs ys : List A) → IsPermutation xs ys → IsPermutation (flat_map f xs) (flat_map f ys)
  flat_map-permuted xs ys same =
      IsPermutation-keeps xs (λ zs. IsPermutation (flat_map f xs) (flat_map f zs))
      (IsPermutation-refl (flat_map f xs))
      (λ zs i j one other so_far. IsPermutation-trans (flat_map f xs) (flat_map f zs) (flat_map f (swap zs i j)) so_far
      (swap_changes zs i j one other)) ys same

  -- an element that is changed so that it gives more
  pub more_of_one : (xs : List A) (i : ℕ) (y d : A) (more : List B) → i < length xs → f y ≡ f (get_or xs i d) ++ more →
      IsPermutation (flat_map f (set xs i y)) (flat_map f xs ++ more)
  more_of_one [] i y d more within is = absurd (omega (arith, within))
  more_of_one (x ∷ xs) zero y d more within is =
      let rest : List B = flat_map f xs in
      subst (λ zs. IsPermutation (zs ++ rest) ((f x ++ rest) ++ more)) (sym is)
      (subst (IsPermutation ((f x ++ more) ++ rest)) (sym (append_assoc (f x) rest more))
      (subst (λ zs. IsPermutation zs (f x ++ (rest ++ more))) (sym (append_assoc (f x) more rest))
      (IsPermutation-append_right (f x) (more ++ rest) (rest ++ more) (IsPermutation-append_comm more rest))))
  more_of_one (x ∷ xs) (suc i) y d more within is =
      subst (IsPermutation (f x ++ flat_map f (set xs i y))) (sym (append_assoc (f x) (flat_map f xs) more))
      (IsPermutation-append_right (f x) (flat_map f (set xs i y)) (flat_map f xs ++ more)
      (more_of_one xs i y d more (omega (arith, within)) is))
