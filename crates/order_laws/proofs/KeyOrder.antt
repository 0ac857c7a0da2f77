-- Pairs with distinct keys that are sorted by them: they are in key order, and so the pairs of what they hold.
use Rattle.std.proofs.Common.{◌≡◌, ℕ, suc, ◌+◌, ◌<◌, Bool, true, false, cond, List, [], ◌∷◌, map, length, get_or, Some, refl, sym, ap, ◌∙◌, subst, arith}
use Rattle.std.specs.Prelude.{T, ◌&&◌, IsPermutation}
use Rattle.std.specs.List.{IsDistinct}
use Rattle.std.specs.List.Sorted.{IsSortedByKey}
use Rattle.std.specs.declared.cmp.Ordering.{Ordering}
use Rattle.std.specs.declared.cmp.Ordering.TheVariants.{Less, Equal, Greater}
use Rattle.std.specs.Ordering.{is_lt, ordering_reverse}
use Rattle.std.specs.FinMap.{same_map}
use Rattle.std.specs.FinMap.Entries.{below_all, find}
use Rattle.std.proofs.lemmas.List.Sorted.{ranks_by, sorted_far}
use Rattle.plain_map.specs.declared.keys.Key.{Key}
use Rattle.plain_map.specs.declared.keys.Pair.{Pair}
use Rattle.plain_map.specs.Keys.{entry_of, held_in, key_cmp}
use Rattle.plain_map.specs.Places.{IsInKeyOrder}
use Rattle.plain_map.specs.Held.{sessions_of}
use Rattle.plain_map.specs.PlainObject.{Sessions, pairs_of}
use Rattle.plain_map.proofs.KeyLemmas.{keys_total, exact_keys}
use Rattle.plain_map.proofs.SessionLemmas.{get-sessions_of, pairs_of-sessions_of}
use Rattle.bucket_states.specs.Items.{same_key, value_at}
use Rattle.bucket_states.specs.Parts.{HasDistinctKeys}
use Rattle.bucket_states.proofs.KeyTests.{Decides-same_key, eq_by_cmp-same_key, same_key-equiv}
use Rattle.closed_laws.proofs.HeldPairs.{apart_from}
use Rattle.list_laws.proofs.Places.{in_at}
use Rattle.order_laws.proofs.Reopened.{keys_apart, value_is}

-- sorted by their keys
abbrev IsSorted : List Pair → Type 0
IsSorted ps = IsSortedByKey (λ (p : Pair). p.key) key_cmp ps

-- two facts are one
both : (a b : Bool) → T a → T b → T (a && b)
both true b one two = two
both false b one two = absurd one

-- a key that is below each is below all
below_from : (x : Key) (ps : List Pair) →
    ((k : ℕ) (d : Pair) → k < length ps → T (is_lt (key_cmp x (get_or ps k d).key))) →
    T (below_all key_cmp x (map entry_of ps))
below_from x [] each = tt
below_from x (p ∷ ps) each =
    both (is_lt (key_cmp x p.key)) (below_all key_cmp x (map entry_of ps)) (each 0 p (omega arith))
    (below_from x ps (λ k d h. each (suc k) d (omega arith)))

-- of two different keys, the one that is not above is below
below_other : (a b : Key) (r : Ordering) → key_cmp a b ≡ r → is_lt (key_cmp b a) ≡ false → same_key a b ≡ false →
    T (is_lt r)
below_other a b Less is not other = tt
below_other a b Equal is not other = cc ((Decides-same_key a b).1 (exact_keys a b is))
below_other a b Greater is not other = cc (ap is_lt (keys_total.antisymm b a ∙ ap ordering_reverse is))

-- the first of sorted pairs with distinct keys is below all others
first_below : (p : Pair) (ps : List Pair) → IsSorted (p ∷ ps) → HasDistinctKeys (p ∷ ps) →
    T (below_all key_cmp p.key (map entry_of ps))
unfolding IsDistinct
first_below p ps sorted distinct = below_from p.key ps (λ k d h.
    below_other p.key (get_or ps k d).key (key_cmp p.key (get_or ps k d).key) refl
    (sorted_far (λ (a b : Pair). is_lt (key_cmp a.key b.key)) (ranks_by keys_total (λ (q : Pair). q.key)) (p ∷ ps)
    sorted 0 (suc k) d (omega arith) (omega arith))
    (apart_from p.key ps (get_or ps k d) distinct.0 (in_at ps k d h)))

-- the others are sorted
pub sorted_tail : (p : Pair) (ps : List Pair) → IsSorted (p ∷ ps) → IsSorted ps
sorted_tail p ps sorted k d low high =
    let next : suc k + 1 ≡ suc (k + 1) = omega arith in
    subst (λ n. is_lt (key_cmp (get_or (p ∷ ps) n d).key (get_or ps k d).key) ≡ false) next
    (sorted (suc k) d (omega arith) (omega arith))

-- so such pairs are in key order
pub in_key_order : (ps : List Pair) → IsSorted ps → HasDistinctKeys ps → IsInKeyOrder ps
unfolding IsDistinct
in_key_order [] sorted distinct = tt
in_key_order (p ∷ ps) sorted distinct = both _ _ (first_below p ps sorted distinct)
    (in_key_order ps (sorted_tail p ps sorted) distinct.1)

-- what is found among entries is the value at the key
find_at : (key : Key) (ps : List Pair) → find key_cmp key (map entry_of ps) ≡ value_at key ps
find_at key [] = refl
find_at key (p ∷ ps) =
    ap (λ b. cond b (Some (held_in p)) (find key_cmp key (map entry_of ps)))
    (eq_by_cmp-same_key key p.key ∙ same_key-equiv.symm key p.key)
    ∙ ap (cond (same_key p.key key) (Some (held_in p))) (find_at key ps)

-- pairs of the sessions, in another order, that are sorted by their keys are the pairs of the sessions
pub sorted_is_held : (held : Sessions) (pairs : List Pair) → IsPermutation (pairs_of held) pairs → IsSorted pairs →
    pairs ≡ pairs_of held
sorted_is_held held pairs moved sorted =
    let ordered = in_key_order pairs sorted (keys_apart held pairs moved) in
    let same : sessions_of pairs ≡ held =
    same_map keys_total exact_keys (sessions_of pairs) held (λ key.
    get-sessions_of pairs ordered key ∙ find_at key pairs ∙ sym (value_is held pairs moved key)) in
    sym (pairs_of-sessions_of pairs ordered) ∙ ap pairs_of same
