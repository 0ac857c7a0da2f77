-- How many distinct keys of a list pass a test.
use Rattle.std.proofs.Common.{◌≡◌, ◌≤◌, Bool, true, false, cond, ◌||◌, List, [], ◌∷◌, length, refl, sym, ap, ◌∙◌, subst, arith}
use Rattle.std.specs.Prelude.{filter, count_by, ◌&&◌}
use Rattle.std.specs.List.{IsDistinct, list_any, AllByRecursion as Each}
use Rattle.std.proofs.lemmas.Bool.{and_parts}
use Rattle.std.proofs.lemmas.List.Sums.{length-filter}
use Rattle.std.proofs.lemmas.Map.Keys.{IsDistinct-cons}
use Rattle.std.proofs.lemmas.Map.Made.{length-le_from_is_member}
use Rattle.plain_map.specs.declared.keys.Key.{Key}
use Rattle.bucket_states.specs.Items.{same_key}
use Rattle.bucket_states.proofs.KeyTests.{Decides-same_key, same_key-equiv}
use Rattle.table_model.specs.Needs.{distinct_keys}

-- the key is among these
abbrev pub has : List Key → Key → Bool
has keys key = list_any (same_key key) keys

-- each once has the same members
pub distinct_has : (keys : List Key) (q : Key) → has (distinct_keys keys) q ≡ has keys q
distinct_has [] q = refl
distinct_has (key ∷ keys) q = go (has keys key) refl (distinct_has keys q)
  where
    twice : same_key q key ≡ true → has keys key ≡ true → has keys q ≡ true
    twice is there = subst (λ k. has keys k ≡ true) (sym ((Decides-same_key q key).0 is)) there

    by : (b : Bool) → same_key q key ≡ b → has keys key ≡ true → has keys q ≡ (b || has keys q)
    by true is there = twice is there
    by false is there = refl

    go : (b : Bool) → has keys key ≡ b → has (distinct_keys keys) q ≡ has keys q →
        has (cond b (distinct_keys keys) (key ∷ distinct_keys keys)) q ≡ (same_key q key || has keys q)
    go true there rest = rest ∙ by (same_key q key) refl there
    go false there rest = ap (λ b. same_key q key || b) rest

-- and none twice
apart_from : (keys : List Key) (key : Key) → has keys key ≡ false → Each (λ k. same_key key k ≡ false) keys
apart_from [] key e = tt
apart_from (k ∷ keys) key e = go (same_key key k) refl e (apart_from keys key)
  where
    go : (b : Bool) → same_key key k ≡ b → (b || has keys key) ≡ false →
        (has keys key ≡ false → Each (λ x. same_key key x ≡ false) keys) → Each (λ x. same_key key x ≡ false) (k ∷ keys)
    go true is e rest = cc
    go false is e rest = (is, rest e)

-- the keys, each once, are distinct
pub distinct_is : (keys : List Key) → IsDistinct same_key (distinct_keys keys)
unfolding IsDistinct
distinct_is [] = tt
distinct_is (key ∷ keys) = go (has keys key) refl (distinct_is keys)
  where
    go : (b : Bool) → has keys key ≡ b → IsDistinct same_key (distinct_keys keys) →
        IsDistinct same_key (cond b (distinct_keys keys) (key ∷ distinct_keys keys))
    go true e rest = rest
    go false e rest =
        IsDistinct-cons same_key key (distinct_keys keys) (apart_from (distinct_keys keys) key (distinct_has keys key
        ∙ e)) rest

-- the members that pass
pub has_passing : (test : Key → Bool) (keys : List Key) (q : Key) → has (filter test keys) q ≡ (test q && has keys q)
has_passing test [] q = none (test q)
  where
    none : (b : Bool) → false ≡ (b && false)
    none true = refl
    none false = refl
has_passing test (key ∷ keys) q = go (test key) refl (same_key q key) refl (has_passing test keys q)
  where
    go : (b : Bool) → test key ≡ b → (x : Bool) → same_key q key ≡ x →
        has (filter test keys) q ≡ (test q && has keys q) → has (cond b (key ∷ filter test keys) (filter test keys))
        q ≡ (test q && (x || has keys q))
    go true e true is rest = ap (λ b. b || has (filter test keys) q) is
        ∙ sym (ap (λ b. b && true) (ap test ((Decides-same_key q key).0 is) ∙ e))
    go true e false is rest = ap (λ b. b || has (filter test keys) q) is ∙ rest
    go false e true is rest = (let no : test q ≡ false = ap test ((Decides-same_key q key).0 is) ∙ e in rest
        ∙ ap (λ b. b && has keys q) no ∙ sym (ap (λ b. b && true) no))
    go false e false is rest = rest

-- and so are those that pass
distinct_passing : (test : Key → Bool) (keys : List Key) → IsDistinct same_key keys →
    IsDistinct same_key (filter test keys)
unfolding IsDistinct
distinct_passing test [] d = tt
distinct_passing test (key ∷ keys) d = go (test key) (kept keys d.0) (distinct_passing test keys d.1)
  where
    kept : (xs : List Key) → Each (λ k. same_key key k ≡ false) xs → Each (λ k. same_key key k ≡ false) (filter test xs)
    kept [] e = tt
    kept (x ∷ xs) e = by (test x) (kept xs e.1)
      where
        by : (b : Bool) → Each (λ k. same_key key k ≡ false) (filter test xs) →
            Each (λ k. same_key key k ≡ false) (cond b (x ∷ filter test xs) (filter test xs))
        by true rest = (e.0, rest)
        by false rest = rest

    go : (b : Bool) → Each (λ k. same_key key k ≡ false) (filter test keys) → IsDistinct same_key (filter test keys) →
        IsDistinct same_key (cond b (key ∷ filter test keys) (filter test keys))
    go true apart rest = IsDistinct-cons same_key key (filter test keys) apart rest
    go false apart rest = rest

-- distinct keys among these that pass are at most as many
pub at_most : (test : Key → Bool) (xs keys : List Key) → IsDistinct same_key xs →
    ((q : Key) → has xs q ≡ true → (test q ≡ true) × (has keys q ≡ true)) →
    length xs ≤ count_by test (distinct_keys keys)
at_most test xs keys d each =
    let some = length-le_from_is_member same_key-equiv xs (filter test (distinct_keys keys)) d (λ q e.
    (let p = each q e in has_passing test (distinct_keys keys) q ∙ ap (λ b. b && has (distinct_keys keys) q) p.0
    ∙ distinct_has keys q ∙ p.1)) in
    omega (arith, some, length-filter test (distinct_keys keys))

-- and they are at most as many as a list that has them all
pub no_more : (test : Key → Bool) (keys ys : List Key) → ((q : Key) → test q ≡ true → has keys q ≡ true →
    has ys q ≡ true) → count_by test (distinct_keys keys) ≤ length ys
no_more test keys ys each =
    let some = length-le_from_is_member same_key-equiv (filter test (distinct_keys keys)) ys
    (distinct_passing test (distinct_keys keys) (distinct_is keys)) (λ q e.
    (let p = and_parts (test q) (has (distinct_keys keys) q) (sym (has_passing test (distinct_keys keys) q) ∙ e) in
    each q p.0 (sym (distinct_has keys q) ∙ p.1))) in
    omega (arith, some, length-filter test (distinct_keys keys))

-- a member of a list, each of which is so
pub each_has : (P : Key → Type 0) (keys : List Key) (q : Key) → Each P keys → has keys q ≡ true → P q
each_has P [] q e h = cc
each_has P (key ∷ keys) q e h = go (same_key q key) refl h (each_has P keys q e.1)
  where
    go : (b : Bool) → same_key q key ≡ b → (b || has keys q) ≡ true → (has keys q ≡ true → P q) → P q
    go true is h rest = subst P (sym ((Decides-same_key q key).0 is)) e.0
    go false is h rest = rest h
