-- The opening holds all first keys and no other. So no prefix of a first leaf, and none that goes on from it, has
-- more of them than a bucket has room for.
use Rattle.std.proofs.Common.{◌≡◌, ℕ, ◌≤◌, Bool, true, false, cond, ◌||◌, List, [], ◌∷◌, ◌++◌, length, Option, Some, None, refl, sym, ap, ◌∙◌, subst, arith}
use Rattle.std.specs.Prelude.{◌==◌, is_some, filter, count_by, fold}
use Rattle.std.specs.List.{AllByRecursion as Each}
use Rattle.std.specs.FinMap.{empty, get, get-empty}
use Rattle.std.proofs.lemmas.Bool.{lt-ltb, eqb-true}
use Rattle.std.proofs.lemmas.List.{append_assoc, map-append, length-map}
use Rattle.std.proofs.lemmas.List.Sums.{length-filter}
use Rattle.std.proofs.lemmas.Map.Keys.{IsDistinct-head, IsDistinct-tail}
use Rattle.std.proofs.lemmas.Map.Made.{length-le_from_is_member}
use Rattle.plain_map.specs.declared.keys.Key.{Key}
use Rattle.plain_map.specs.declared.keys.Pair.{Pair}
use Rattle.plain_map.specs.declared.rules.Rules.{Rules}
use Rattle.plain_map.specs.Keys.{Session, held_in, key_cmp}
use Rattle.plain_map.specs.PlainObject.{Sessions, class_of, class_size, brought, has_room, inserted}
use Rattle.bucket_states.specs.Items.{prefix_of, same_key, value_at}
use Rattle.bucket_states.specs.Parts.{keys_of, HasDistinctKeys, HoldsPart}
use Rattle.bucket_states.proofs.ItemLemmas.{is_some-value_at}
use Rattle.bucket_states.proofs.KeyTests.{Decides-same_key, same_key-equiv}
use Rattle.bucket_states.proofs.SizeLemmas.{entry_keys, of_class, class_size-keys, distinct_of_class, member_of_class}
use Rattle.bucket_states.proofs.PartLemmas.{both_hold, get-inserted, some_of}
use Rattle.table_model.specs.Setup.{HaveRoom, classmates}
use Rattle.table_model.specs.Closed.{sessions_with}
use Rattle.table_model.specs.Needs.{distinct_keys}
use Rattle.bound_laws.proofs.KeyCounts.{has, no_more}
use Rattle.list_laws.proofs.Truths.{not_both}

-- exactly the keys of these pairs are held
abbrev pub HoldsKeys : List Pair → Sessions → Type 0
HoldsKeys front sessions = (q : Key) → is_some (get sessions q) ≡ has (keys_of front) q

-- the pairs of a class that are among these
has_kept : (test : Key → Bool) (items : List Pair) (q : Key) → test q ≡ true → has (keys_of items) q ≡ true →
    has (keys_of (filter (λ (p : Pair). test p.key) items)) q ≡ true
has_kept test [] q t h = cc
has_kept test (pair ∷ items) q t h = go (test pair.key) refl (same_key q pair.key) refl h (has_kept test items q t)
  where
    go : (b : Bool) → test pair.key ≡ b → (x : Bool) → same_key q pair.key ≡ x → (x || has (keys_of items) q) ≡ true →
        (has (keys_of items) q ≡ true → has (keys_of (filter (λ (p : Pair). test p.key) items)) q ≡ true) →
        has (keys_of (cond b (pair ∷ filter (λ (p : Pair). test p.key) items)
        (filter (λ (p : Pair). test p.key) items))) q ≡ true
    go true e true is h rest = ap (λ b. b || has (keys_of (filter (λ (p : Pair). test p.key) items)) q) is
    go true e false is h rest = ap (λ b. b || has (keys_of (filter (λ (p : Pair). test p.key) items)) q) is ∙ rest h
    go false e true is h rest = absurd (not_both (test q) t (ap test ((Decides-same_key q pair.key).0 is) ∙ e))
    go false e false is h rest = rest h

-- so a class has no more held keys than pairs among these
class_few : (rules : Rules) (front : List Pair) (sessions : Sessions) (key : Key) → HoldsKeys front sessions →
    class_size rules sessions (class_of rules key) ≤ classmates rules key front
class_few rules front sessions key holds =
    let class = class_of rules key in
    let test : Key → Bool = λ k. class_of rules k == class in
    let some = length-le_from_is_member same_key-equiv (entry_keys (of_class rules sessions class))
    (keys_of (filter (λ (p : Pair). test p.key) front)) (distinct_of_class rules sessions class) (λ q e.
    (let p = both_hold (test q) (get sessions q) (sym (member_of_class rules sessions class q) ∙ e) in
    has_kept test front q p.0 (sym (holds q) ∙ p.1))) in
    omega (
      arith,
      class_size-keys rules sessions class,
      some,
      length-map (filter (λ (p : Pair). test p.key) front)
          (λ (p : Pair). p.key),
      length-filter (λ (p : Pair). test p.key) front,
    )

-- a key that comes later is not among the earlier ones
has_push : (keys : List Key) (key q : Key) → has (keys ++ key ∷ []) q ≡ (same_key key q || has keys q)
has_push [] key q = ap (λ b. b || false) (same_key-equiv.symm q key)
has_push (k ∷ keys) key q =
    ap (λ b. same_key q k || b) (has_push keys key q) ∙ turned (same_key q k) (same_key key q) (has keys q)
  where
    turned : (a b c : Bool) → (a || (b || c)) ≡ (b || (a || c))
    turned true true c = refl
    turned true false c = refl
    turned false b c = refl

-- a pair's key is not among those of the earlier ones
later_apart : (front : List Pair) (pair : Pair) (rest : List Pair) → HasDistinctKeys (front ++ pair ∷ rest) →
    has (keys_of front) pair.key ≡ false
later_apart [] pair rest d = refl
later_apart (p ∷ front) pair rest d =
    let here : same_key pair.key p.key ≡ false = same_key-equiv.symm pair.key p.key
    ∙ at front (IsDistinct-head same_key p.key (keys_of (front ++ pair ∷ rest)) d) in
    ap (λ b. b || has (keys_of front) pair.key) here
    ∙ later_apart front pair rest (IsDistinct-tail same_key p.key (keys_of (front ++ pair ∷ rest)) d)
  where
    at : (xs : List Pair) → Each (λ k. same_key p.key k ≡ false) (keys_of (xs ++ pair ∷ rest)) →
        same_key p.key pair.key ≡ false
    at [] e = e.0
    at (x ∷ xs) e = at xs e.1

-- each pair finds room
module _ (rules : Rules) where
  -- one pair more is held
  one_more : (front rest : List Pair) (pair : Pair) (sessions : Sessions) → HasDistinctKeys (front ++ pair ∷ rest) →
      HaveRoom rules (front ++ pair ∷ rest) → HoldsKeys front sessions →
      HoldsKeys (front ++ pair ∷ []) (brought rules sessions pair.key (held_in pair))
  one_more front rest pair sessions distinct room holds q =
      let absent : is_some (get sessions pair.key) ≡ false = holds pair.key ∙ later_apart front pair rest distinct in
      let free : has_room rules sessions pair.key ≡ true =
      lt-ltb (class_size rules sessions (class_of rules pair.key)) rules.items
      (omega (arith, class_few rules front sessions pair.key holds, room front rest pair refl)) in
      go (get sessions pair.key) absent (has_room rules sessions pair.key) free
    where
      keys : has (keys_of (front ++ pair ∷ [])) q ≡ (same_key pair.key q || has (keys_of front) q)
      keys =
          ap (λ ks. has ks q) (map-append (λ (p : Pair). p.key) front (pair ∷ [])) ∙ has_push (keys_of front) pair.key q

      by : (b : Bool) (o : Option Session) → is_some o ≡ has (keys_of front) q →
          is_some (cond b (Some (held_in pair)) o) ≡ (b || has (keys_of front) q)
      by true o e = refl
      by false o e = e

      go : (o : Option Session) → is_some o ≡ false → (b : Bool) → b ≡ true →
          is_some (get (inserted sessions pair.key (held_in pair) o b) q) ≡ has (keys_of (front ++ pair ∷ [])) q
      go (Some held) e b f = cc
      go None e true f = ap is_some (get-inserted sessions pair.key (held_in pair) q)
          ∙ by (same_key pair.key q) (get sessions q) (holds q) ∙ sym keys
      go None e false f = cc

  -- and so all of them, one after the other
  all_held : (front rest : List Pair) (sessions : Sessions) → HasDistinctKeys (front ++ rest) →
      HaveRoom rules (front ++ rest) → HoldsKeys front sessions →
      HoldsKeys (front ++ rest) (fold (λ m pair. brought rules m pair.key (held_in pair)) sessions rest)
  all_held front [] sessions distinct room holds = λ q. holds q ∙ ap (λ xs. has (keys_of xs) q) (sym (append_nil front))
    where
      append_nil : (xs : List Pair) → xs ++ [] ≡ xs
      append_nil [] = refl
      append_nil (x ∷ xs) = ap (λ ys. x ∷ ys) (append_nil xs)
  all_held front (pair ∷ rest) sessions distinct room holds =
      let same : (front ++ pair ∷ []) ++ rest ≡ front ++ pair ∷ rest = append_assoc front (pair ∷ []) rest in
      let next = one_more front rest pair sessions distinct room holds in
      let all = all_held (front ++ pair ∷ []) rest (brought rules sessions pair.key (held_in pair))
      (subst HasDistinctKeys (sym same) distinct) (subst (HaveRoom rules) (sym same) room) next in
      subst (λ xs. HoldsKeys xs (fold (λ m p. brought rules m p.key (held_in p))
      (brought rules sessions pair.key (held_in pair)) rest)) same all

  -- all first pairs are held, and nothing else
  pub first_held : (first : List Pair) → HasDistinctKeys first → HaveRoom rules first →
      HoldsKeys first (sessions_with rules first)
  first_held first distinct room = all_held [] first empty distinct room (λ q. ap is_some (get-empty key_cmp q))

  -- a bucket that holds its part has all first keys of its prefix
  pub part_first : (first : List Pair) (prefix depth : ℕ) (items : List Pair) → HasDistinctKeys first →
      HaveRoom rules first → HoldsPart rules prefix depth items (sessions_with rules first) →
      count_by (λ key. prefix_of rules depth key == prefix) (distinct_keys (keys_of first)) ≤ length items
  part_first first prefix depth items distinct room part =
      let some = no_more (λ key. prefix_of rules depth key == prefix) (keys_of first) (keys_of items) (λ q t h.
      sym (is_some-value_at q items) ∙ ap is_some (part.same q (eqb-true (prefix_of rules depth q) prefix t))
      ∙ first_held first distinct room q ∙ h) in
      omega (arith, some, length-map items (λ (p : Pair). p.key))

  -- and each of its keys is one of them
  pub part_keys : (first : List Pair) (prefix depth : ℕ) (items : List Pair) → HasDistinctKeys first →
      HaveRoom rules first → HoldsPart rules prefix depth items (sessions_with rules first) →
      (q : Key) → has (keys_of items) q ≡ true → has (keys_of first) q ≡ true
  part_keys first prefix depth items distinct room part q h =
      let held = some_of (value_at q items) (is_some-value_at q items ∙ h) in
      sym (first_held first distinct room q) ∙ ap is_some (sym (part.same q (part.inside q held.0 held.1)))
      ∙ ap is_some held.1
