-- Pairs in the order of their keys have distinct keys where no two neighbours have one key.
use Rattle.std.proofs.Common.{◌≡◌, ℕ, zero, suc, ◌+◌, ◌<◌, Bool, true, false, List, [], ◌∷◌, length, get_or}
use Rattle.std.proofs.Common.{refl, sym, ap, ◌∙◌, subst, arith}
use Rattle.std.proofs.lemmas.List.Sorted.{ranks_by, sorted_far}
use Rattle.std.specs.List.{AllByRecursion, IsDistinct}
use Rattle.std.specs.List.Sorted.{IsSortedByKey}
use Rattle.std.specs.declared.cmp.Ordering.{Ordering}
use Rattle.std.specs.declared.cmp.Ordering.TheVariants.{Less, Equal, Greater}
use Rattle.std.specs.Ordering.{is_lt, ordering_reverse}
use Rattle.plain_map.specs.declared.keys.Key.{Key}
use Rattle.plain_map.specs.declared.keys.Pair.{Pair}
use Rattle.plain_map.specs.Keys.{key_cmp}
use Rattle.plain_map.proofs.KeyLemmas.{keys_total, exact_keys}
use Rattle.bucket_states.specs.Items.{same_key}
use Rattle.bucket_states.specs.Parts.{HasDistinctKeys, keys_of}
use Rattle.bucket_states.proofs.KeyTests.{Decides-same_key}
use Rattle.order_laws.proofs.KeyOrder.{sorted_tail}

-- sorted by their keys
abbrev pub IsSorted : List Pair → Type 0
IsSorted ps = IsSortedByKey (λ (p : Pair). p.key) key_cmp ps

-- no two neighbours have one key
abbrev pub AreApart : List Pair → Type 0
AreApart ps = (k : ℕ) (d : Pair) → k + 1 < length ps → same_key (get_or ps k d).key (get_or ps (k + 1) d).key ≡ false

-- a key that is neither below nor above another is that one
one_key : (a b : Key) (r : Ordering) → key_cmp a b ≡ r → is_lt (key_cmp a b) ≡ false → is_lt (key_cmp b a) ≡ false →
    same_key a b ≡ true
one_key a b Less is not_less not_more = cc
one_key a b Equal is not_less not_more = (Decides-same_key a b).1 (exact_keys a b is)
one_key a b Greater is not_less not_more = cc (ap is_lt (keys_total.antisymm b a ∙ ap ordering_reverse is))

-- the first of them has the key of no other
first_apart : (p : Pair) (ps : List Pair) → IsSorted (p ∷ ps) → AreApart (p ∷ ps) → (j : ℕ) → j < length ps →
    same_key p.key (get_or ps j p).key ≡ false
first_apart p [] sorted apart j h = absurd (omega (arith, h))
first_apart p (q ∷ ps) sorted apart zero h = apart 0 p (omega arith)
first_apart p (q ∷ ps) sorted apart (suc j) h =
    let far = sorted_far (λ (a b : Pair). is_lt (key_cmp a.key b.key)) (ranks_by keys_total (λ (x : Pair). x.key))
    (p ∷ q ∷ ps) sorted in
    go (same_key p.key (get_or ps j p).key) refl
    (far 1 (suc (suc j)) p (omega arith) (omega (arith, h)))
  where
    go : (b : Bool) → same_key p.key (get_or ps j p).key ≡ b → is_lt (key_cmp (get_or ps j p).key q.key) ≡ false →
        same_key p.key (get_or ps j p).key ≡ false
    go false e above = e
    go true e above =
        let same : p.key ≡ (get_or ps j p).key = (Decides-same_key p.key (get_or ps j p).key).0 e in
        let not_less : is_lt (key_cmp p.key q.key) ≡ false = ap (λ k. is_lt (key_cmp k q.key)) same ∙ above in
        let not_more : is_lt (key_cmp q.key p.key) ≡ false = sorted 0 p (omega arith) (omega arith) in
        let one : same_key p.key q.key ≡ true = one_key p.key q.key (key_cmp p.key q.key) refl not_less not_more in
        let other : same_key p.key q.key ≡ false = apart 0 p (omega arith) in
        cc

-- what holds at each place holds of all keys
all_apart : (key : Key) (ps : List Pair) (d : Pair) →
    ((j : ℕ) → j < length ps → same_key key (get_or ps j d).key ≡ false) →
    AllByRecursion (λ k. same_key key k ≡ false) (keys_of ps)
all_apart key [] d each = tt
all_apart key (p ∷ ps) d each =
    (each 0 (omega arith), all_apart key ps d (λ j h. each (suc j) (omega (arith, h))))

apart_rest : (p : Pair) (ps : List Pair) → AreApart (p ∷ ps) → AreApart ps
apart_rest p ps apart k d h =
    let next : suc k + 1 ≡ suc (k + 1) = omega arith in
    subst (λ n. same_key (get_or ps k d).key (get_or (p ∷ ps) n d).key ≡ false) next
    (apart (suc k) d (omega (arith, h)))

-- so all keys are distinct
pub distinct_in_order : (ps : List Pair) → IsSorted ps → AreApart ps → HasDistinctKeys ps
unfolding IsDistinct
distinct_in_order [] sorted apart = tt
distinct_in_order (p ∷ ps) sorted apart = (
  all_apart p.key ps p (first_apart p ps sorted apart),
  distinct_in_order ps (sorted_tail p ps sorted) (apart_rest p ps apart),
)

-- and pairs of distinct keys are apart
pub apart_of_distinct : (ps : List Pair) → HasDistinctKeys ps → AreApart ps
unfolding IsDistinct
apart_of_distinct [] distinct k d h = absurd (omega (arith, h))
apart_of_distinct (p ∷ []) distinct k d h = absurd (omega (arith, h))
apart_of_distinct (p ∷ q ∷ ps) distinct zero d h = distinct.0.0
apart_of_distinct (p ∷ q ∷ ps) distinct (suc k) d h =
    let next : suc k + 1 ≡ suc (k + 1) = omega arith in
    subst (λ n. same_key (get_or (q ∷ ps) k d).key (get_or (p ∷ q ∷ ps) n d).key ≡ false) (sym next)
    (apart_of_distinct (q ∷ ps) distinct.1 k d (omega (arith, h)))
