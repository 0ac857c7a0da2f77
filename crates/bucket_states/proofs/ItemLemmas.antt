-- What the items hold at a key, after one pair more and after one less.
use Rattle.std.proofs.Common.{◌≡◌, ◌≤◌, Bool, true, false, cond, List, [], ◌∷◌, ◌++◌, length, Option, Some, None, refl, sym, ap, subst, ◌∙◌, arith}
use Rattle.std.specs.Prelude.{is_some, ◌||◌}
use Rattle.std.specs.List.{IsDistinct, AllByRecursion, list_any}
use Rattle.std.proofs.lemmas.Option.{same_Some}
use Rattle.std.proofs.lemmas.List.{map-append}
use Rattle.std.proofs.lemmas.Map.Keys.{IsDistinct-push, IsDistinct-head, IsDistinct-tail, IsDistinct-cons}
use Rattle.plain_map.specs.declared.keys.Key.{Key}
use Rattle.plain_map.specs.declared.keys.Pair.{Pair}
use Rattle.plain_map.specs.Keys.{Session, held_in}
use Rattle.bucket_states.specs.Items.{same_key, value_at, changed_in, with_change, without}
use Rattle.bucket_states.specs.Parts.{keys_of, HasDistinctKeys}
use Rattle.bucket_states.proofs.KeyTests.{Decides-same_key, same_key-equiv}

-- a key has a value exactly where it is among the keys
pub is_some-value_at : (key : Key) (items : List Pair) →
    is_some (value_at key items) ≡ list_any (same_key key) (keys_of items)
is_some-value_at key [] = refl
is_some-value_at key (pair ∷ pairs) =
    ap (λ b. is_some (cond b (Some (held_in pair)) (value_at key pairs))) (same_key-equiv.symm pair.key key)
    ∙ by_test (same_key key pair.key) (value_at key pairs) (list_any (same_key key) (keys_of pairs))
    (is_some-value_at key pairs)
  where
    by_test : (b : Bool) (o : Option Session) (t : Bool) → is_some o ≡ t →
        is_some (cond b (Some (held_in pair)) o) ≡ (b || t)
    by_test true o t is = refl
    by_test false o t is = is

-- what a new pair at the end adds
pub value_at-push : (items : List Pair) (pair : Pair) (q : Key) → value_at pair.key items ≡ None →
    value_at q (items ++ pair ∷ []) ≡ cond (same_key pair.key q) (Some (held_in pair)) (value_at q items)
value_at-push [] pair q none = refl
value_at-push (first ∷ items) pair q none =
    by_test (same_key first.key q) (same_key pair.key q) refl refl
    (value_at-push items pair q (later (same_key first.key pair.key) none))
  where
    later : (b : Bool) → cond b (Some (held_in first)) (value_at pair.key items) ≡ None → value_at pair.key items ≡ None
    later true none = cc
    later false none = none

    clash : same_key first.key q ≡ true → same_key pair.key q ≡ true → ⊥
    clash is so =
        let one : first.key ≡ q = (Decides-same_key first.key q).0 is in
        let two : pair.key ≡ q = (Decides-same_key pair.key q).0 so in
        let here : same_key first.key pair.key ≡ true = (Decides-same_key first.key pair.key).1 (one ∙ sym two) in
        let held : Some (held_in first) ≡ None =
        sym (ap (λ b. cond b (Some (held_in first)) (value_at pair.key items)) here) ∙ none in
        cc

    by_test : (b c : Bool) → same_key first.key q ≡ b → same_key pair.key q ≡ c →
        value_at q (items ++ pair ∷ []) ≡ cond c (Some (held_in pair)) (value_at q items)
        → cond b (Some (held_in first)) (value_at q (items ++ pair ∷ [])) ≡ cond c (Some (held_in pair))
        (cond b (Some (held_in first)) (value_at q items))
    by_test false c is_not so rest = rest
    by_test true false is so rest = refl
    by_test true true is so rest = absurd (clash is so)

-- a key that all of a list's keys differ from has no value there
none_here : (key : Key) (items : List Pair) → AllByRecursion (λ k. same_key key k ≡ false) (keys_of items) →
    value_at key items ≡ None
none_here key [] apart = refl
none_here key (pair ∷ pairs) apart =
    ap (λ b. cond b (Some (held_in pair)) (value_at key pairs)) (same_key-equiv.symm pair.key key ∙ apart.0)
    ∙ none_here key pairs apart.1

none_twice : (b : Bool) (o : Option Session) → o ≡ None → o ≡ cond b None o
none_twice true o none = none
none_twice false o none = refl

-- what the first pair with a key takes away
pub value_at-without : (key : Key) (items : List Pair) (q : Key) → HasDistinctKeys items →
    value_at q (without key items) ≡ cond (same_key key q) None (value_at q items)
value_at-without key [] q distinct = none_twice (same_key key q) (value_at q []) refl
value_at-without key (pair ∷ pairs) q distinct =
    by_test (same_key pair.key key) (same_key key q) refl refl
    (value_at-without key pairs q (IsDistinct-tail same_key pair.key (keys_of pairs) distinct))
  where
    -- the pair's key is the key
    here : same_key pair.key key ≡ true → (c : Bool) → same_key key q ≡ c →
        value_at q pairs ≡ cond c None (cond (same_key pair.key q) (Some (held_in pair)) (value_at q pairs))
    here is true so =
        let one : pair.key ≡ key = (Decides-same_key pair.key key).0 is in
        let two : key ≡ q = (Decides-same_key key q).0 so in
        subst (λ (k : Key). value_at k pairs ≡ None) (one ∙ two)
        (none_here pair.key pairs (IsDistinct-head same_key pair.key (keys_of pairs) distinct))
    here is false so =
        let one : pair.key ≡ key = (Decides-same_key pair.key key).0 is in
        let other : same_key pair.key q ≡ false = ap (λ (k : Key). same_key k q) one ∙ so in
        sym (ap (λ b. cond b (Some (held_in pair)) (value_at q pairs)) other)

    -- it is not
    swapped : (b c : Bool) → same_key pair.key q ≡ b → same_key key q ≡ c → same_key pair.key key ≡ false →
        (o : Option Session)
        → cond b (Some (held_in pair)) (cond c None o) ≡ cond c None (cond b (Some (held_in pair)) o)
    swapped true true is so apart o =
        let one : pair.key ≡ q = (Decides-same_key pair.key q).0 is in
        let two : key ≡ q = (Decides-same_key key q).0 so in
        let same : same_key pair.key key ≡ true = (Decides-same_key pair.key key).1 (one ∙ sym two) in
        cc
    swapped true false is so apart o = refl
    swapped false c is so apart o = refl

    by_test : (b c : Bool) → same_key pair.key key ≡ b → same_key key q ≡ c →
        value_at q (without key pairs) ≡ cond c None (value_at q pairs)
        → value_at q (cond b pairs (pair ∷ without key pairs)) ≡ cond c None
        (cond (same_key pair.key q) (Some (held_in pair)) (value_at q pairs))
    by_test true c is so rest = here is c so
    by_test false c apart so rest =
        ap (cond (same_key pair.key q) (Some (held_in pair))) rest
        ∙ swapped (same_key pair.key q) c refl so apart (value_at q pairs)

-- a new key keeps the keys distinct
pub HasDistinctKeys-push : (items : List Pair) (pair : Pair) → HasDistinctKeys items → value_at pair.key items ≡ None →
    HasDistinctKeys (items ++ pair ∷ [])
HasDistinctKeys-push items pair distinct none =
    let absent : list_any (same_key pair.key) (keys_of items) ≡ false = sym (is_some-value_at pair.key items)
    ∙ ap is_some none in
    subst (IsDistinct same_key) (sym (map-append (λ (p : Pair). p.key) items (pair ∷ [])))
    (IsDistinct-push same_key-equiv (keys_of items) pair.key distinct absent)

-- what all keys differ from, the keys that are left differ from
apart-without : (x key : Key) (items : List Pair) → AllByRecursion (λ k. same_key x k ≡ false) (keys_of items) →
    AllByRecursion (λ k. same_key x k ≡ false) (keys_of (without key items))
apart-without x key [] apart = apart
apart-without x key (pair ∷ pairs) apart = by_test (same_key pair.key key) (apart-without x key pairs apart.1)
  where
    by_test : (b : Bool) → AllByRecursion (λ k. same_key x k ≡ false) (keys_of (without key pairs)) →
        AllByRecursion (λ k. same_key x k ≡ false) (keys_of (cond b pairs (pair ∷ without key pairs)))
    by_test true rest = apart.1
    by_test false rest = (apart.0, rest)

-- and so does one key less
pub HasDistinctKeys-without : (key : Key) (items : List Pair) → HasDistinctKeys items →
    HasDistinctKeys (without key items)
HasDistinctKeys-without key [] distinct = distinct
HasDistinctKeys-without key (pair ∷ pairs) distinct =
    by_test (same_key pair.key key)
    (HasDistinctKeys-without key pairs (IsDistinct-tail same_key pair.key (keys_of pairs) distinct))
  where
    by_test : (b : Bool) → HasDistinctKeys (without key pairs) →
        HasDistinctKeys (cond b pairs (pair ∷ without key pairs))
    by_test true rest = IsDistinct-tail same_key pair.key (keys_of pairs) distinct
    by_test false rest = IsDistinct-cons same_key pair.key (keys_of (without key pairs))
        (apart-without pair.key key pairs (IsDistinct-head same_key pair.key (keys_of pairs) distinct)) rest

-- no more items are left
pub length-without : (key : Key) (items : List Pair) → length (without key items) ≤ length items
length-without key [] = omega arith
length-without key (pair ∷ pairs) = by_test (same_key pair.key key) (length-without key pairs)
  where
    by_test : (b : Bool) → length (without key pairs) ≤ length pairs →
        length (cond b pairs (pair ∷ without key pairs)) ≤ length (pair ∷ pairs)
    by_test true rest = omega arith
    by_test false rest = omega arith

-- ---- a change of the session in one pair

-- the keys stay
pub keys_of-changed : (key : Key) (change : Session → Session) (items : List Pair) →
    keys_of (changed_in key change items) ≡ keys_of items
keys_of-changed key change [] = refl
keys_of-changed key change (pair ∷ pairs) = by_test (same_key pair.key key) (keys_of-changed key change pairs)
  where
    by_test : (b : Bool) → keys_of (changed_in key change pairs) ≡ keys_of pairs →
        keys_of (cond b (with_change change pair ∷ pairs) (pair ∷ changed_in key change pairs)) ≡ keys_of (pair ∷ pairs)
    by_test true rest = refl
    by_test false rest = ap (λ ks. pair.key ∷ ks) rest

-- so many items stay
pub length-changed : (key : Key) (change : Session → Session) (items : List Pair) →
    length (changed_in key change items) ≡ length items
length-changed key change [] = refl
length-changed key change (pair ∷ pairs) = by_test (same_key pair.key key) (length-changed key change pairs)
  where
    by_test : (b : Bool) → length (changed_in key change pairs) ≡ length pairs →
        length (cond b (with_change change pair ∷ pairs) (pair ∷ changed_in key change pairs)) ≡ length (pair ∷ pairs)
    by_test true rest = refl
    by_test false rest = omega (arith, rest)

-- what is held at a key
pub value_at-changed : (key : Key) (change : Session → Session) (items : List Pair) (held : Session) (q : Key) →
    value_at key items ≡ Some held →
    value_at q (changed_in key change items) ≡ cond (same_key key q) (Some (change held)) (value_at q items)
value_at-changed key change [] held q is = cc
value_at-changed key change (pair ∷ pairs) held q is =
    by_test (same_key pair.key key) refl (same_key key q) refl is (value_at-changed key change pairs held q)
  where
    -- the pair has the key
    here : same_key pair.key key ≡ true → (c : Bool) → same_key key q ≡ c → held_in pair ≡ held →
        cond (same_key pair.key q) (Some (held_in (with_change change pair))) (value_at q pairs)
        ≡ cond c (Some (change held)) (cond (same_key pair.key q) (Some (held_in pair)) (value_at q pairs))
    here is true so own =
        let one : same_key pair.key q ≡ true = ap (λ (k : Key). same_key k q) ((Decides-same_key pair.key key).0 is)
        ∙ so in
        ap (λ b. cond b (Some (held_in (with_change change pair))) (value_at q pairs)) one
        ∙ ap (λ (h : Session). Some (change h)) own
    here is false so own =
        let other : same_key pair.key q ≡ false = ap (λ (k : Key). same_key k q) ((Decides-same_key pair.key key).0 is)
        ∙ so in
        ap (λ b. cond b (Some (held_in (with_change change pair))) (value_at q pairs)) other
        ∙ sym (ap (λ b. cond b (Some (held_in pair)) (value_at q pairs)) other)

    -- it has not
    swapped : (b c : Bool) → same_key pair.key q ≡ b → same_key key q ≡ c → same_key pair.key key ≡ false →
        (o : Option Session) (x : Session)
        → cond b (Some (held_in pair)) (cond c (Some x) o) ≡ cond c (Some x) (cond b (Some (held_in pair)) o)
    swapped true true is so apart o x =
        let one : pair.key ≡ q = (Decides-same_key pair.key q).0 is in
        let two : key ≡ q = (Decides-same_key key q).0 so in
        let same : same_key pair.key key ≡ true = (Decides-same_key pair.key key).1 (one ∙ sym two) in
        cc
    swapped true false is so apart o x = refl
    swapped false c is so apart o x = refl

    by_test : (b : Bool) → same_key pair.key key ≡ b → (c : Bool) → same_key key q ≡ c →
        cond b (Some (held_in pair)) (value_at key pairs) ≡ Some held →
        (value_at key pairs ≡ Some held →
        value_at q (changed_in key change pairs) ≡ cond (same_key key q) (Some (change held)) (value_at q pairs))
        → value_at q (cond b (with_change change pair ∷ pairs) (pair ∷ changed_in key change pairs))
        ≡ cond (same_key key q) (Some (change held))
        (cond (same_key pair.key q) (Some (held_in pair)) (value_at q pairs))
    by_test true is c so own rest = here is (same_key key q) refl (same_Some _ _ own)
    by_test false apart c so own rest =
        ap (cond (same_key pair.key q) (Some (held_in pair))) (rest own)
        ∙ swapped (same_key pair.key q) (same_key key q) refl refl apart (value_at q pairs) (change held)
