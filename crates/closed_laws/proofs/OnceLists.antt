-- Of numbers that are named more than once one is kept.
use Rattle.std.proofs.Common.{◌≡◌, ℕ, Bool, true, false, List, [], ◌∷◌, reverse, inl, inr, subst, eqb-true}
use Rattle.std.specs.Prelude.{◌==◌}
use Rattle.std.specs.List.{IsDistinct, AllByRecursion}
use Rattle.std.proofs.lemmas.Bool.{cases_Bool}
use Rattle.table_model.specs.Reading.{is_among, each_once, each_once_first}
use Rattle.list_laws.proofs.Lists.{In, Once, any_at}
use Rattle.placing_laws.proofs.Stuck.{among_in}
use Rattle.closed_laws.specs.Lists.{AreOnce, EachOnce}
use Rattle.closed_laws.proofs.Lines.{each_in, in_each, each_is_once}
use Rattle.closed_laws.proofs.ClosedPairs.{in_reverse, reverse_in, once_reverse}
use Rattle.list_laws.proofs.Truths.{both_ways}

-- what stands once each is distinct
distinct : (xs : List ℕ) → Once xs → IsDistinct (λ one other. one == other) xs
unfolding IsDistinct
distinct [] o = tt
distinct (x ∷ xs) o = (apart x xs o.0, distinct xs o.1)
  where
    apart : (x : ℕ) (ys : List ℕ) → (In x ys → ⊥) → AllByRecursion (λ y. x == y ≡ false) ys
    apart x [] n = tt
    apart x (y ∷ ys) n = (
      elim (cases_Bool (x == y)) [ inr f ↦ f | inl e ↦ absurd (n (inl (eqb-true x y e))) ],
      apart x ys (λ i. n (inr i)),
    )

-- and where the members are the same, so are the tests for them
same_tests : (xs ys : List ℕ) → ((x : ℕ) → In x xs → In x ys) → ((x : ℕ) → In x ys → In x xs) → (x : ℕ) →
    is_among xs x ≡ is_among ys x
same_tests xs ys there back x = both_ways (is_among xs x) (is_among ys x) (one_way xs ys there) (one_way ys xs back)
  where
    one_way : (xs ys : List ℕ) → ((z : ℕ) → In z xs → In z ys) → is_among xs x ≡ true → is_among ys x ≡ true
    one_way xs ys h e =
        let at = any_at (λ other. other == x) xs e in
        among_in ys x (h x (subst (λ z. In z xs) (eqb-true at.0 x at.2) at.1))

-- so a list with each member once is what is asked
are_once : (all once : List ℕ) → Once once → ((x : ℕ) → In x once → In x all) → ((x : ℕ) → In x all → In x once) →
    AreOnce all once
are_once all once o there back = record { distinct = distinct once o; same = same_tests once all there back }

-- both ways to keep one of those that are equal
pub each_is_listed_once : EachOnce
each_is_listed_once xs = (
  are_once xs (each_once xs) (each_is_once xs) (λ x i. each_in xs x i) (λ x i. in_each xs x i),
  are_once xs (each_once_first xs) (once_reverse (each_once (reverse xs)) (each_is_once (reverse xs)))
      (λ x i. reverse_in x xs (each_in (reverse xs) x (reverse_in x (each_once (reverse xs)) i)))
      (λ x i. in_reverse x (each_once (reverse xs)) (in_each (reverse xs) x (in_reverse x xs i))),
)
