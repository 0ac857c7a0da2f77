-- Rings that are cut and joined.
use Rattle.std.proofs.Common.{◌≡◌, ◌≢◌, ℕ, ◌+◌, ◌≤◌, ◌∙◌, cond, List, [], ◌∷◌, ◌++◌, refl, sym, subst, arith}
use Rattle.std.specs.Prelude.{◌==◌}
use Rattle.std.proofs.lemmas.Bool.Decides.{nat_tests}
use Rattle.own_rows.specs.Rings.{Path, count, last_of}

-- a number is its own, and not another one
pub one_for : (x k : ℕ) → x ≡ k → ◌≡◌ {A = ℕ} (cond (x == k) 1 0) 1
one_for x k is = grind (arith, nat_tests)

pub none_for : (x k : ℕ) → x ≢ k → ◌≡◌ {A = ℕ} (cond (x == k) 1 0) 0
none_for x k other = grind (arith, nat_tests)

-- what stands first is counted
pub counts_first : (x : ℕ) (xs : List ℕ) → 1 ≤ count (x ∷ xs) x
counts_first x xs = omega (arith, one_for x x refl)

-- what is counted behind is counted
pub counts_rest : (k x : ℕ) (xs : List ℕ) → 1 ≤ count xs k → 1 ≤ count (x ∷ xs) k
counts_rest k x xs h = omega (arith, h)

-- two lists have their counts together
pub counts_both : (k : ℕ) (xs ys : List ℕ) → count (xs ++ ys) k ≡ count xs k + count ys k
counts_both k [] ys = omega arith
counts_both k (x ∷ xs) ys = omega (arith, counts_both k xs ys)

-- the last one is counted
pub counts_last : (xs : List ℕ) (from : ℕ) → 1 ≤ count (from ∷ xs) (last_of xs from)
counts_last [] from = counts_first from []
counts_last (x ∷ xs) from = counts_rest (last_of xs x) from (x ∷ xs) (counts_last xs x)

module _ (old new : ℕ → ℕ) where
  -- the links of all of a list stay as they were
  abbrev pub Stay : List ℕ → Type 0
  Stay xs = (k : ℕ) → 1 ≤ count xs k → new k ≡ old k

  -- a path that comes from elsewhere
  pub from_elsewhere : (xs : List ℕ) (from other end : ℕ) → new other ≡ old from → Stay xs → Path old xs from end →
      Path new xs other end
  from_elsewhere [] from other end is stay path = is ∙ path
  from_elsewhere (x ∷ xs) from other end is stay path = (
    is ∙ path.0,
    from_elsewhere xs x x end (stay x (counts_first x xs)) (λ k h. stay k (counts_rest k x xs h)) path.1,
  )

  -- a path that is left as it was
  pub stays : (xs : List ℕ) (from end : ℕ) → Stay (from ∷ xs) → Path old xs from end → Path new xs from end
  stays xs from end stay path =
      from_elsewhere xs from from end (stay from (counts_first from xs)) (λ k h. stay k (counts_rest k from xs h)) path

-- two paths are one
pub joined : (next : ℕ → ℕ) (xs ys : List ℕ) (from x end : ℕ) → Path next xs from x → Path next ys x end →
    Path next (xs ++ x ∷ ys) from end
joined next [] ys from x end one two = (one, two)
joined next (z ∷ xs) ys from x end one two = (one.0, joined next xs ys z x end one.1 two)

-- one path is two
pub front_of : (next : ℕ → ℕ) (xs ys : List ℕ) (from x end : ℕ) → Path next (xs ++ x ∷ ys) from end →
    Path next xs from x
front_of next [] ys from x end path = path.0
front_of next (z ∷ xs) ys from x end path = (path.0, front_of next xs ys z x end path.1)

pub rest_of : (next : ℕ → ℕ) (xs ys : List ℕ) (from x end : ℕ) → Path next (xs ++ x ∷ ys) from end →
    Path next ys x end
rest_of next [] ys from x end path = path.1
rest_of next (z ∷ xs) ys from x end path = rest_of next xs ys z x end path.1

-- the last one is linked to the end
pub last_linked : (next : ℕ → ℕ) (xs : List ℕ) (from end : ℕ) → Path next xs from end → next (last_of xs from) ≡ end
last_linked next [] from end path = path
last_linked next (x ∷ xs) from end path = last_linked next xs x end path.1

-- the links of all but the last one stay
abbrev pub StayFront : (old new : ℕ → ℕ) → List ℕ → (from : ℕ) → Type 0
StayFront old new xs from = (k : ℕ) → 1 ≤ count (from ∷ xs) k → k ≢ last_of xs from → new k ≡ old k

-- where each is there once, the first of more is not the last
first_is_other : (xs : List ℕ) (x from : ℕ) → ((k : ℕ) → count (from ∷ x ∷ xs) k ≤ 1) → from ≢ last_of xs x
first_is_other xs x from once is =
    omega (
      arith,
      once from,
      one_for from from refl,
      subst (λ (k : ℕ). 1 ≤ count (x ∷ xs) k) (sym is)
          (counts_last xs x),
    )

-- a path that leads elsewhere at its end
pub to_elsewhere : (old new : ℕ → ℕ) (xs : List ℕ) (from end other : ℕ) → ((k : ℕ) → count (from ∷ xs) k ≤ 1) →
    new (last_of xs from) ≡ other → StayFront old new xs from → Path old xs from end → Path new xs from other
to_elsewhere old new [] from end other once is stay path = is
to_elsewhere old new (x ∷ xs) from end other once is stay path = (
  stay from (counts_first from (x ∷ xs)) (first_is_other xs x from once) ∙ path.0,
  to_elsewhere old new xs x end other (λ k. omega (arith, once k)) is
      (λ k h d. stay k (counts_rest k from (x ∷ xs) h) d) path.1,
)

-- a path without one of its numbers, whose link its predecessor has now
pub cut_out : (old new : ℕ → ℕ) (xs ys : List ℕ) (from x end : ℕ) → ((k : ℕ) → count (from ∷ xs) k ≤ 1) →
    new (last_of xs from) ≡ old x → StayFront old new xs from → Stay old new ys →
    Path old (xs ++ x ∷ ys) from end → Path new (xs ++ ys) from end
cut_out old new [] ys from x end once is front stay path = from_elsewhere old new ys x from end is stay path.1
cut_out old new (z ∷ xs) ys from x end once is front stay path = (
  front from (counts_first from (z ∷ xs)) (first_is_other xs z from once) ∙ path.0,
  cut_out old new xs ys z x end (λ k. omega (arith, once k)) is
      (λ k h d. front k (counts_rest k from (z ∷ xs) h) d) stay path.1,
)

-- two paths are one, where the last number of the first has the link from which the second comes
pub linked_on : (old new : ℕ → ℕ) (xs ys : List ℕ) (from end other : ℕ) → ((k : ℕ) → count (from ∷ xs) k ≤ 1) →
    new (last_of xs from) ≡ old other → StayFront old new xs from → Stay old new ys → Path old xs from end →
    Path old ys other other → Path new (xs ++ ys) from other
linked_on old new [] ys from end other once is front stay path more =
    from_elsewhere old new ys other from other is stay more
linked_on old new (x ∷ xs) ys from end other once is front stay path more = (
  front from (counts_first from (x ∷ xs)) (first_is_other xs x from once) ∙ path.0,
  linked_on old new xs ys x end other (λ k. omega (arith, once k)) is
      (λ k h d. front k (counts_rest k from (x ∷ xs) h) d) stay path.1 more,
)

-- numbers of two lists that have none in common differ
pub differ : (xs ys : List ℕ) (j k : ℕ) → ((i : ℕ) → count xs i + count ys i ≤ 1) → 1 ≤ count xs j → 1 ≤ count ys k →
    j ≢ k
differ xs ys j k once one two same =
    omega (arith, once j, one, subst (λ (i : ℕ). 1 ≤ count ys i) (sym same) two)

-- what stands behind a number differs from it
pub rest_differs : (x k : ℕ) (xs : List ℕ) → count (x ∷ xs) x ≤ 1 → 1 ≤ count xs k → k ≢ x
rest_differs x k xs once h e = omega (arith, once, one_for x x refl, subst (λ (i : ℕ). 1 ≤ count xs i) e h)
