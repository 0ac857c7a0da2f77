-- Pairs that are those of what is held, in another order: their keys are distinct, they find room where no class has
-- more keys than a bucket has room for, and one after the other they make again what is held.
use Rattle.std.proofs.Common.{◌≡◌, ℕ, ◌≤◌, Bool, true, false, cond, List, [], ◌∷◌, ◌++◌, Option, Some, None, inl, inr, refl, sym, ap, ◌∙◌, subst, arith, eq-eqb, lt-ltb}
use Rattle.std.specs.Prelude.{IsPermutation, ◌==◌, count_by, fold}
use Rattle.std.specs.FinMap.{get, empty, get-empty, same_map}
use Rattle.std.proofs.lemmas.List.{append_assoc, append-nil}
use Rattle.std.proofs.lemmas.List.Sums.{sum_by-append}
use Rattle.std.proofs.lemmas.List.Sorted.{IsPermutation-sym, IsPermutation-map, sum_by-IsPermutation}
use Rattle.std.proofs.lemmas.Map.Keys.{IsDistinct-IsPermutation}
use Rattle.plain_map.specs.declared.keys.Key.{Key}
use Rattle.plain_map.specs.declared.keys.Pair.{Pair}
use Rattle.plain_map.specs.declared.rules.Rules.{Rules}
use Rattle.plain_map.specs.Keys.{Session, held_in, key_cmp, pair_of}
use Rattle.plain_map.specs.PlainObject.{Sessions, pairs_of, class_of, brought, class_size, has_room, inserted}
use Rattle.plain_map.proofs.KeyLemmas.{keys_total, exact_keys}
use Rattle.bucket_states.specs.Items.{same_key, value_at}
use Rattle.bucket_states.specs.Parts.{keys_of, HasDistinctKeys}
use Rattle.bucket_states.proofs.KeyTests.{same_key-equiv, new_key}
use Rattle.bucket_states.proofs.ItemLemmas.{value_at-push}
use Rattle.bucket_states.proofs.PartLemmas.{get-inserted}
use Rattle.table_model.specs.Setup.{HaveRoom}
use Rattle.table_model.specs.Closed.{sessions_with}
use Rattle.list_laws.proofs.Lists.{In, Once, in_cut, in_middle}
use Rattle.closed_laws.proofs.ClosedPairs.{held_there}
use Rattle.closed_laws.proofs.HeldPairs.{items_distinct, pairs_are_held, pairs_distinct}
use Rattle.list_laws.proofs.Places.{in_other_order}

-- ---- counts

-- no more members pass than in another list that has all that pass
count_few : {A : Type 0} (test : A → Bool) (xs ys : List A) → Once xs →
    ((x : A) → In x xs → test x ≡ true → In x ys) → count_by test xs ≤ count_by test ys
count_few test [] ys once there = omega arith
count_few {A} test (x ∷ xs) ys once there = go (test x) refl (λ zs all. count_few test xs zs once.1 all)
  where
    go : (b : Bool) → test x ≡ b →
        ((zs : List A) → ((z : A) → In z xs → test z ≡ true → In z zs) → count_by test xs ≤ count_by test zs) →
        count_by test (x ∷ xs) ≤ count_by test ys
    go false e rest = omega (
      arith,
      rest ys (λ z m. there z (inr m)),
      ap {B = ℕ} (λ b. cond b 1 0) e,
      sum_by-append (λ z. cond (test z) 1 0) (x ∷ []) xs,
    )
    go true e rest =
        let cut = in_cut x ys (there x (inl refl) e) in
        let left = rest (cut.0 ++ cut.1) (λ z m t.
        elim (in_middle z x cut.0 cut.1 (subst (In z) cut.2 (there z (inr m) t))) [
          | inl same ↦ absurd (once.0 (subst (λ w. In w xs) same m))
          | inr n ↦ n
        ]) in
        omega (
          arith,
          left,
          ap {B = ℕ} (λ b. cond b 1 0) e,
          ap (count_by test) cut.2,
          sum_by-append (λ z. cond (test z) 1 0) (x ∷ []) xs,
          sum_by-append (λ z. cond (test z) 1 0) (x ∷ []) cut.1,
          sum_by-append (λ z. cond (test z) 1 0) cut.0 (x ∷ cut.1),
          sum_by-append (λ z. cond (test z) 1 0) cut.0 cut.1,
        )

-- ---- pairs in another order

-- two options that have the same values
same_option : {A : Type 0} (a b : Option A) → ((v : A) → a ≡ Some v → b ≡ Some v) →
    ((v : A) → b ≡ Some v → a ≡ Some v) → a ≡ b
same_option (Some v) b there back = sym (there v refl)
same_option None None there back = refl
same_option None (Some v) there back = back v refl

-- pairs that are those of the sessions in another order
module _ (held : Sessions) (pairs : List Pair) (moved : IsPermutation (pairs_of held) pairs) where
  -- have distinct keys
  pub keys_apart : HasDistinctKeys pairs
  keys_apart = IsDistinct-IsPermutation same_key same_key-equiv.symm (keys_of (pairs_of held)) (keys_of pairs)
      (IsPermutation-map (λ (p : Pair). p.key) (pairs_of held) pairs moved) (pairs_distinct held)

  -- and at each key what is held
  pub value_is : (key : Key) → get held key ≡ value_at key pairs
  value_is key = same_option (get held key) (value_at key pairs)
      (λ v e. (items_distinct pairs keys_apart).there (pair_of (key, v))
      (in_other_order pairs (pairs_of held) (pair_of (key, v)) (IsPermutation-sym (pairs_of held) pairs moved)
      ((pairs_are_held held).back (pair_of (key, v)) e)))
      (λ v e. (pairs_are_held held).there (pair_of (key, v))
      (in_other_order (pairs_of held) pairs (pair_of (key, v)) moved (held_there pairs key v e)))

  module _ (rules : Rules) (few : (key : Key) → class_size rules held (class_of rules key) ≤ rules.items) where
    -- each pair finds room
    pub have_room : HaveRoom rules pairs
    unfolding class_size
    have_room front back pair cut =
        let test : Pair → Bool = λ other. class_of rules other.key == class_of rules pair.key in
        let one : Pair → ℕ = λ z. cond (test z) 1 0 in
        omega (
          arith,
          few pair.key,
          sum_by-IsPermutation one (pairs_of held) pairs moved,
          ap (count_by test) cut,
          sum_by-append one front (pair ∷ back),
          sum_by-append one (pair ∷ []) back,
          ap {B = ℕ} (λ b. cond b 1 0) (eq-eqb (class_of rules pair.key) (class_of rules pair.key) refl),
        )

-- ---- pairs that come one after the other

module _ (rules : Rules) where
  -- so one pair more is held
  one_more : (front rest : List Pair) (pair : Pair) (m : Sessions) → HasDistinctKeys (front ++ pair ∷ rest) →
      HaveRoom rules (front ++ pair ∷ rest) → ((q : Key) → get m q ≡ value_at q front) →
      (q : Key) → get (brought rules m pair.key (held_in pair)) q ≡ value_at q (front ++ pair ∷ [])
  unfolding class_size
  one_more front rest pair m distinct room holds q =
      go (get m pair.key) (holds pair.key ∙ none) (has_room rules m pair.key) free
    where
      none : value_at pair.key front ≡ None
      none = new_key front rest pair distinct

      test : Pair → Bool
      test other = class_of rules other.key == class_of rules pair.key

      few : count_by test (pairs_of m) ≤ count_by test front
      few = count_few test (pairs_of m) front (pairs_are_held m).once (λ x there passes.
          held_there front x.key (held_in x) (sym (holds x.key) ∙ (pairs_are_held m).there x there))

      free : has_room rules m pair.key ≡ true
      free = lt-ltb (class_size rules m (class_of rules pair.key)) rules.items
          (omega (arith, few, room front rest pair refl))

      go : (o : Option Session) → o ≡ None → (b : Bool) → b ≡ true →
          get (inserted m pair.key (held_in pair) o b) q ≡ value_at q (front ++ pair ∷ [])
      go (Some v) e b f = cc
      go None e false f = cc
      go None e true f = get-inserted m pair.key (held_in pair) q
          ∙ ap (cond (same_key pair.key q) (Some (held_in pair))) (holds q) ∙ sym (value_at-push front pair q none)

  -- and so all of them
  all_more : (front rest : List Pair) (m : Sessions) → HasDistinctKeys (front ++ rest) →
      HaveRoom rules (front ++ rest) → ((q : Key) → get m q ≡ value_at q front) →
      (q : Key) → get (fold (λ s pair. brought rules s pair.key (held_in pair)) m rest) q ≡ value_at q (front ++ rest)
  all_more front [] m distinct room holds q = holds q ∙ ap (value_at q) (sym (append-nil front))
  all_more front (pair ∷ rest) m distinct room holds q =
      let same : (front ++ pair ∷ []) ++ rest ≡ front ++ pair ∷ rest = append_assoc front (pair ∷ []) rest in
      all_more (front ++ pair ∷ []) rest (brought rules m pair.key (held_in pair))
      (subst HasDistinctKeys (sym same) distinct) (subst (HaveRoom rules) (sym same) room)
      (one_more front rest pair m distinct room holds) q ∙ ap (value_at q) same

  -- what a table holds that is opened with these pairs
  pub opened_with : (pairs : List Pair) → HasDistinctKeys pairs → HaveRoom rules pairs →
      (q : Key) → get (sessions_with rules pairs) q ≡ value_at q pairs
  opened_with pairs distinct room = all_more [] pairs empty distinct room (λ q. get-empty key_cmp q)

  -- it is what was held
  pub reopened : (held : Sessions) (pairs : List Pair) → IsPermutation (pairs_of held) pairs → HaveRoom rules pairs →
      sessions_with rules pairs ≡ held
  reopened held pairs moved room = same_map keys_total exact_keys (sessions_with rules pairs) held
      (λ q. opened_with pairs (keys_apart held pairs moved) room q ∙ sym (value_is held pairs moved q))
