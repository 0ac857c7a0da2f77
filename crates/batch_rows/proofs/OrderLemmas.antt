-- Keys in order, each once: what a sort and a dedup leave, and two such lists that are merged.
use Rattle.std.specs.Prelude.{Option}
use Rattle.std.proofs.Common.{ap, ◌≡◌, ℕ, ◌+◌, ◌<◌, ◌≤◌, Bool, List, [], ◌∷◌, ◌++◌, ◌⊎◌, inl, inr, append_assoc, drop, get_or, length, refl, true, false, Some, sym, subst, ◌∙◌}
use Rattle.std.specs.List.{IsDistinct, dedup, AllByRecursion as Each}
use Rattle.std.specs.List.Sorted.{IsSorted, IsStrictlySortedBy}
use Rattle.std.specs.Ordering.{is_eq, is_lt, is_some_and, nat_cmp, ordering_reverse, ordering_then, partial_ordering_then}
use Rattle.std.specs.declared.cmp.Ordering.{Ordering}
use Rattle.std.specs.declared.cmp.Ordering.TheVariants.{Less, Equal, Greater}
use Rattle.std.proofs.lemmas.Bool.{cases_lt}
use Rattle.std.proofs.lemmas.List.{drop_all, drop_more}
use Rattle.std.proofs.lemmas.List.Kept.{IsStrictlySortedBy-dedup}
use Rattle.std.proofs.lemmas.Map.Keys.{IsDistinct-from_sorted}
use Rattle.plain_map.specs.declared.keys.Key.{Key}
use Rattle.plain_map.specs.Keys.{key_cmp}
use Rattle.plain_map.proofs.KeyLemmas.{keys_total}
use Rattle.bucket_states.specs.Items.{same_key}
use Rattle.bucket_states.proofs.KeyTests.{eq_by_cmp-same_key}
use Rattle.batch_rows.specs.Counts.{AreInOrder}

-- what a sort and a dedup leave stands in order
pub once_in_order : (sorted once : List Key) → IsSorted key_cmp sorted → once ≡ dedup same_key sorted → AreInOrder once
once_in_order sorted once rising is =
    rw is (IsStrictlySortedBy-dedup keys_total (λ a b. sym (eq_by_cmp-same_key a b)) sorted rising)

-- of keys in order none stands twice
pub order_distinct : (keys : List Key) → AreInOrder keys → IsDistinct same_key keys
order_distinct keys order = subst (λ (test : Key → Key → Bool). IsDistinct test keys)
    (λ i a b. eq_by_cmp-same_key a b i) (IsDistinct-from_sorted key_cmp keys order)

-- ---- two lists are merged

-- the test for a lesser key, as it is made of the keys' words
abbrev pub is_lesser : Key → Key → Bool
is_lesser a b = is_some_and is_lt (partial_ordering_then (Some (nat_cmp a.k0 b.k0))
    (partial_ordering_then (Some (nat_cmp a.k1 b.k1)) (partial_ordering_then (Some (nat_cmp a.k2 b.k2))
    (partial_ordering_then (Some (nat_cmp a.k3 b.k3)) (Some (nat_cmp a.k4 b.k4))))))

-- two orderings, one after the other, where both are known
then_is : (first second : Ordering) (rest : Option Ordering) → rest ≡ Some second →
    partial_ordering_then (Some first) rest ≡ Some (ordering_then first second)
then_is Less second rest is = refl
then_is Equal second rest is = is
then_is Greater second rest is = refl

-- it is that of the order
is_lesser-is_lt : (a b : Key) → is_lesser a b ≡ is_lt (key_cmp a b)
is_lesser-is_lt a b = ap (is_some_and is_lt) (then_is (nat_cmp a.k0 b.k0) _ _ (then_is (nat_cmp a.k1 b.k1) _ _
    (then_is (nat_cmp a.k2 b.k2) _ _ (then_is (nat_cmp a.k3 b.k3) (nat_cmp a.k4 b.k4) _ refl))))

-- where it passes, the first key is less
pub lesser : (a b : Key) → is_lesser a b ≡ true → key_cmp a b ≡ Less
lesser a b passes = by (key_cmp a b) (sym (is_lesser-is_lt a b) ∙ passes)
  where
    by : (order : Ordering) → is_lt order ≡ true → order ≡ Less
    by Less passes = refl
    by Equal passes = cc
    by Greater passes = cc

-- where it fails and the keys are two, the second key is less
pub greater : (a b : Key) → is_lesser a b ≡ false → same_key a b ≡ false → key_cmp b a ≡ Less
greater a b fails other = keys_total.antisymm b a
    ∙ by (key_cmp a b) (sym (is_lesser-is_lt a b) ∙ fails) (eq_by_cmp-same_key a b ∙ other)
  where
    by : (order : Ordering) → is_lt order ≡ false → is_eq order ≡ false → ordering_reverse order ≡ Less
    by Less fails other = cc
    by Equal fails other = cc
    by Greater fails other = refl

-- what holds of each key, with a key before the last ones or with others in their place, holds of each with both
each_with : (P : Key → Type 0) (before : List Key) (key : Key) (rest after : List Key) →
    Each P (before ++ key ∷ rest) → Each P (before ++ after) → Each P (before ++ key ∷ after)
each_with P [] key rest after one other = (one.0, other)
each_with P (first ∷ before) key rest after one other = (one.0, each_with P before key rest after one.1 other.1)

-- so the first ones stand in order with both, where the key is less than each of the others
order_with : (before : List Key) (key : Key) (rest after : List Key) → AreInOrder (before ++ key ∷ rest) →
    AreInOrder (before ++ after) → Each (λ other. key_cmp key other ≡ Less) after → AreInOrder (before ++ key ∷ after)
unfolding IsStrictlySortedBy
order_with [] key rest after one other less = (less, other)
order_with (first ∷ before) key rest after one other less = (
  each_with (λ last. key_cmp first last ≡ Less) before key rest after one.0 other.0,
  order_with before key rest after one.1 other.1 less,
)

-- what holds of each key, holds of each but one
each_without : (P : Key → Type 0) (before : List Key) (key : Key) (after : List Key) →
    Each P (before ++ key ∷ after) → Each P (before ++ after)
each_without P [] key after each = each.1
each_without P (first ∷ before) key after each = (each.0, each_without P before key after each.1)

-- keys in order are so without one of them
order_without : (before : List Key) (key : Key) (after : List Key) → AreInOrder (before ++ key ∷ after) →
    AreInOrder (before ++ after)
unfolding IsStrictlySortedBy
order_without [] key after order = order.1
order_without (first ∷ before) key after order = (
  each_without (λ last. key_cmp first last ≡ Less) before key after order.0,
  order_without before key after order.1,
)

-- a key is less than each key that is greater than a greater one
each_less : (key other : Key) (more : List Key) → key_cmp key other ≡ Less →
    Each (λ last. key_cmp other last ≡ Less) more → Each (λ last. key_cmp key last ≡ Less) more
each_less key other [] less each = each
each_less key other (last ∷ more) less each =
    (keys_total.trans key other last less each.0, each_less key other more less each.1)

-- so it is less than each of some keys in order where it is less than the first of them
order_less : (before : List Key) (key other : Key) (more : List Key) → key_cmp key other ≡ Less →
    AreInOrder (before ++ other ∷ more) → Each (λ last. key_cmp key last ≡ Less) (other ∷ more)
unfolding IsStrictlySortedBy
order_less [] key other more less order = (less, each_less key other more less order.0)
order_less (first ∷ before) key other more less order = order_less before key other more less order.1

-- the same, of what is left of a list from a place on
pub left_less : (all keys : List Key) (place : ℕ) (nobody key : Key) →
    (place < length keys → key_cmp key (get_or keys place nobody) ≡ Less) → AreInOrder (all ++ drop place keys) →
    Each (λ last. key_cmp key last ≡ Less) (drop place keys)
left_less all keys place nobody key less order = by (cases_lt place (length keys))
  where
    by : (place < length keys) ⊎ (length keys ≤ place) → Each (λ last. key_cmp key last ≡ Less) (drop place keys)
    by (inl inside) =
        let more = drop_more keys place nobody inside in
        subst (Each (λ last. key_cmp key last ≡ Less)) (sym more)
        (order_less all key (get_or keys place nobody) (drop (place + 1) keys) (less inside)
        (subst (λ left. AreInOrder (all ++ left)) more order))
    by (inr past) = subst (Each (λ last. key_cmp key last ≡ Less)) (sym (drop_all place keys past)) tt

-- a key that is less than each that is left of the other list is taken, and what is left of either may still follow
pub order_taken : (all keys left : List Key) (place : ℕ) (nobody : Key) → place < length keys →
    Each (λ last. key_cmp (get_or keys place nobody) last ≡ Less) left →
    AreInOrder (all ++ drop place keys) × AreInOrder (all ++ left) →
    AreInOrder ((all ++ get_or keys place nobody ∷ []) ++ drop (place + 1) keys)
    × AreInOrder ((all ++ get_or keys place nobody ∷ []) ++ left)
order_taken all keys left place nobody inside less order =
    let key : Key = get_or keys place nobody in
    let rest : List Key = drop (place + 1) keys in
    let with_key : AreInOrder (all ++ key ∷ rest) =
    subst (λ more. AreInOrder (all ++ more)) (drop_more keys place nobody inside) order.0 in (
      subst AreInOrder (sym (append_assoc all (key ∷ []) rest)) with_key,
      subst AreInOrder (sym (append_assoc all (key ∷ []) left)) (order_with all key rest left with_key order.1 less),
    )

-- what is left of a list may follow without its first key too
pub order_left_out : (all keys : List Key) (place : ℕ) (nobody : Key) → place < length keys →
    AreInOrder (all ++ drop place keys) → AreInOrder (all ++ drop (place + 1) keys)
order_left_out all keys place nobody inside order =
    order_without all (get_or keys place nobody) (drop (place + 1) keys)
    (subst (λ more. AreInOrder (all ++ more)) (drop_more keys place nobody inside) order)
