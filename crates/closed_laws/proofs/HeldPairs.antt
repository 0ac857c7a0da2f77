-- Items of distinct keys, and the pairs of what is held: each stands once, and is what is found at its key.
use Rattle.std.proofs.Common.{◌≡◌, true, false, cond, List, [], ◌∷◌, map, Some, true≢false, inl, inr, refl, sym, ap, ◌∙◌, subst}
use Rattle.std.specs.List.{IsDistinct, AllByRecursion}
use Rattle.std.specs.FinMap.{entries, entries_sorted, get, get-entries}
use Rattle.std.specs.FinMap.Entries.{find}
use Rattle.std.proofs.lemmas.Bool.{cond-true, cond-false}
use Rattle.plain_map.specs.declared.keys.Key.{Key}
use Rattle.plain_map.specs.declared.keys.Pair.{Pair}
use Rattle.plain_map.specs.Keys.{Session, held_in, key_cmp, pair_of}
use Rattle.plain_map.specs.PlainObject.{Sessions, pairs_of}
use Rattle.bucket_states.specs.Items.{same_key, value_at}
use Rattle.bucket_states.specs.Parts.{HasDistinctKeys, keys_of}
use Rattle.bucket_states.proofs.KeyTests.{eq_by_cmp-same_key, same_key-equiv}
use Rattle.bucket_states.proofs.SizeLemmas.{entry_keys, sorted_distinct}
use Rattle.list_laws.proofs.Lists.{In}
use Rattle.closed_laws.proofs.ClosedPairs.{PairsAreHeld, ItemsAreDistinct, held_there}

-- a key that is apart from all keys is apart from that of each member
pub apart_from : (key : Key) (items : List Pair) (pair : Pair) →
    AllByRecursion (λ k. same_key key k ≡ false) (keys_of items) → In pair items → same_key key pair.key ≡ false
apart_from key [] pair all m = elim m [ ]
apart_from key (p ∷ items) pair all (inl e) = ap (λ (x : Pair). same_key key x.key) e ∙ all.0
apart_from key (p ∷ items) pair all (inr m) = apart_from key items pair all.1 m

-- a key is the same as itself
pub same_itself : (key : Key) → same_key key key ≡ true
same_itself key = same_key-equiv.refl key

-- items of distinct keys stand once each, and each is found at its key
pub items_distinct : (items : List Pair) → HasDistinctKeys items → ItemsAreDistinct items
unfolding IsDistinct
items_distinct [] d = record { once = tt; there = λ pair m. elim m [ ] }
items_distinct (p ∷ items) d =
    let rest = items_distinct items d.1 in
    record {
      once = ((λ m. true≢false (sym (same_itself p.key) ∙ apart_from p.key items p d.0 m)), rest.once);
      there = λ pair m. elim m [
        | inl e ↦ cond-true (same_key p.key pair.key) (Some (held_in p)) (value_at pair.key items)
            (ap (λ (x : Pair). same_key p.key x.key) e ∙ same_itself p.key)
            ∙ ap (λ (x : Pair). Some (held_in x)) (sym e)
        | inr n ↦ cond-false (same_key p.key pair.key) (Some (held_in p)) (value_at pair.key items)
            (apart_from p.key items pair d.0 n) ∙ rest.there pair n
      ];
    }

-- the keys of the entries' pairs are the entries' keys
keys_are : (es : List (Key × Session)) → keys_of (map pair_of es) ≡ entry_keys es
keys_are [] = refl
keys_are (e ∷ es) = ap (λ ks. e.0 ∷ ks) (keys_are es)

-- what is held has distinct keys
pub pairs_distinct : (sessions : Sessions) → HasDistinctKeys (pairs_of sessions)
unfolding pairs_of
pairs_distinct sessions = subst (IsDistinct same_key) (sym (keys_are (entries sessions)))
    (sorted_distinct (entries sessions) (entries_sorted sessions))

-- what is found among entries is the value of the pair
find_is : (key : Key) (es : List (Key × Session)) → find key_cmp key es ≡ value_at key (map pair_of es)
find_is key [] = refl
find_is key (e ∷ es) = ap (λ b. cond b (Some e.1) (find key_cmp key es))
    (eq_by_cmp-same_key key e.0 ∙ same_key-equiv.symm key e.0)
    ∙ ap (cond (same_key e.0 key) (Some e.1)) (find_is key es)

-- what is held at a key is the value of its pair
pub get_is : (sessions : Sessions) (key : Key) → get sessions key ≡ value_at key (pairs_of sessions)
unfolding pairs_of
get_is sessions key = get-entries sessions key ∙ find_is key (entries sessions)

-- so the pairs of what is held are those that are found at their keys
pub pairs_are_held : (sessions : Sessions) → PairsAreHeld sessions
pairs_are_held sessions =
    let d = items_distinct (pairs_of sessions) (pairs_distinct sessions) in
    record {
      once = d.once;
      there = λ pair m. get_is sessions pair.key ∙ d.there pair m;
      back = λ pair e. held_there (pairs_of sessions) pair.key (held_in pair) (sym (get_is sessions pair.key) ∙ e);
    }
