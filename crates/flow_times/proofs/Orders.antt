-- Records have one order.
use Rattle.std.proofs.Common.{◌≡◌, ℕ, List, [], ◌∷◌, Option, Some, None, inl, inr, refl, sym, ap, ◌∙◌, subst, arith}
use Rattle.std.proofs.lemmas.Bool.{cases_Bool}
use Rattle.plain_map.specs.declared.keys.Key.{Key}
use Rattle.list_laws.proofs.Lists.{In, in_filter, filter_in}
use Rattle.map_laws.proofs.ByKeyLists.{cons_same, filter_dropped, filter_kept}
use Rattle.flow_times.specs.Ends.{End, IsBefore, IsFirstBy}
use Rattle.flow_times.specs.Metered.{Ended, HaveSameRecords, RecordsHaveOneOrder, end_of, of_key, same_key}
use Rattle.flow_times.proofs.Tests.{key_own}

-- ---- no two stand before each other

first_by : (one other : Option ℕ) (n m : ℕ) → IsFirstBy one other n m → IsFirstBy other one m n → ⊥
first_by (Some a) (Some b) n m p q = omega (arith, p, q)
first_by (Some a) None n m p q = q
first_by None (Some b) n m p q = p
first_by None None n m p q = omega (arith, p, q)

not_both_first : (one other : End) → IsBefore one other → IsBefore other one → ⊥
not_both_first one other (inl p) (inl q) = omega (arith, p, q)
not_both_first one other (inl p) (inr (inl q)) = (let e = q.0 in omega (arith, p, e))
not_both_first one other (inl p) (inr (inr q)) = (let e = q.0 in omega (arith, p, e))
not_both_first one other (inr (inl p)) (inl q) = (let e = p.0 in omega (arith, e, q))
not_both_first one other (inr (inl p)) (inr (inl q)) = (let a = p.1 in let b = q.1 in omega (arith, a, b))
not_both_first one other (inr (inl p)) (inr (inr q)) = (let a = p.1 in let b = q.1 in omega (arith, a, b))
not_both_first one other (inr (inr p)) (inl q) = (let e = p.0 in omega (arith, e, q))
not_both_first one other (inr (inr p)) (inr (inl q)) = (let a = p.1 in let b = q.1 in omega (arith, a, b))
not_both_first one other (inr (inr p)) (inr (inr q)) =
    first_by one.by other.by one.number other.number p.2 q.2

-- ---- two lists

-- a record of the one list is one of the other
pub in_same : (one other : List Ended) (x : Ended) → HaveSameRecords one other → In x one → In x other
in_same one other x same within =
    let key : Key = x.flow.key in
    (in_filter (λ (e : Ended). same_key key e.flow.key) other x
    (subst (λ (l : List Ended). In x l) (same key)
    (filter_in (λ (e : Ended). same_key key e.flow.key) one x within (key_own key)))).0

-- where both begin with one record, the others are the same
rest_same : (x : Ended) (xs ys : List Ended) → HaveSameRecords (x ∷ xs) (x ∷ ys) → HaveSameRecords xs ys
rest_same x xs ys same key = elim (cases_Bool (same_key key x.flow.key)) [
  | inl is ↦
      (cons_same x x (of_key key xs) (of_key key ys)
      (sym (filter_kept (λ (e : Ended). same_key key e.flow.key) x xs is) ∙ same key
      ∙ filter_kept (λ (e : Ended). same_key key e.flow.key) x ys is)).1
  | inr differ ↦
      sym (filter_dropped (λ (e : Ended). same_key key e.flow.key) x xs differ) ∙ same key
      ∙ filter_dropped (λ (e : Ended). same_key key e.flow.key) x ys differ
]

pub one_order : RecordsHaveOneOrder
one_order times lasts [] [] same p q = refl
one_order times lasts [] (y ∷ ys) same p q =
    elim (in_same (y ∷ ys) [] y (λ key. sym (same key)) (inl refl)) [ ]
one_order times lasts (x ∷ xs) [] same p q = elim (in_same (x ∷ xs) [] x same (inl refl)) [ ]
one_order times lasts (x ∷ xs) (y ∷ ys) same p q =
    let first : x ≡ y = both (in_same (x ∷ xs) (y ∷ ys) x same (inl refl))
    (in_same (y ∷ ys) (x ∷ xs) y (λ key. sym (same key)) (inl refl)) in
    let rest : HaveSameRecords xs ys =
    rest_same x xs ys (subst (λ (z : Ended). HaveSameRecords (x ∷ xs) (z ∷ ys)) (sym first) same) in
    ap (λ (z : Ended). z ∷ xs) first
    ∙ ap (λ (l : List Ended). y ∷ l) (one_order times lasts xs ys rest p.1 q.1)
  where
    both : In x (y ∷ ys) → In y (x ∷ xs) → x ≡ y
    both (inl is) other = is
    both (inr later) (inl is) = sym is
    both (inr later) (inr other) =
        absurd (not_both_first (end_of times lasts y) (end_of times lasts x) (q.0 x later) (p.0 y other))
