-- Keys, each once: what a sort and a dedup leave, and what depends on the keys alone and not on their order.
use Rattle.std.proofs.Common.{◌≡◌, ℕ, ◌-◌, ◌^◌, Bool, true, false, cond, ◌||◌, List, [], ◌∷◌, ◌++◌, ◌+◌, ◌<◌, drop, length, take, get_or, append_assoc, refl, sym, ap, ◌∙◌, arith}
use Rattle.std.specs.Prelude.{count_by, sum_by, nat_lt, ◌==◌}
use Rattle.std.specs.List.{IsDistinct, range_with_len, dedup, AllByRecursion as Each}
use Rattle.std.specs.List.Sorted.{IsPermutation}
use Rattle.std.proofs.lemmas.Bool.{or_right}
use Rattle.std.proofs.lemmas.List.{append-nil, drop_more, take_more}
use Rattle.std.proofs.lemmas.List.Concat.{flat_map-append}
use Rattle.std.proofs.lemmas.List.Folds.{list_any-append}
use Rattle.std.proofs.lemmas.List.Kept.{Contains-dedup, Contains-from_dedup}
use Rattle.std.proofs.lemmas.List.Sorted.{list_any-IsPermutation}
use Rattle.std.proofs.lemmas.Map.Views.{Contains-from_any, list_any-from_Contains}
use Rattle.plain_map.specs.declared.calls.Call.{Call}
use Rattle.plain_map.specs.declared.keys.Key.{Key}
use Rattle.plain_map.specs.declared.rules.Rules.{Rules}
use Rattle.bucket_states.specs.Items.{prefix_of, same_key}
use Rattle.bucket_states.proofs.KeyTests.{Decides-same_key, same_key-equiv}
use Rattle.table_model.specs.Needs.{crowded, distinct_keys, inserted_by, splits_for}
use Rattle.bound_laws.proofs.KeyCounts.{has}
use Rattle.batch_rows.specs.BatchRows.{inserted_in_calls}
use Rattle.batch_rows.specs.Counts.{HaveSameKeys}
use Rattle.list_laws.proofs.Truths.{both_ways}
use Rattle.std.proofs.Math.Bool.{or-false}
use Rattle.bound_laws.proofs.Crowded.{more_pass}

-- of the same keys as many pass
pub as_many : (keys others : List Key) → HaveSameKeys keys others → (test : Key → Bool) →
    count_by test (distinct_keys keys) ≡ count_by test (distinct_keys others)
as_many keys others same test =
    let less = more_pass test keys others (λ q h. sym (same q) ∙ h) in
    let more = more_pass test others keys (λ q h. same q ∙ h) in
    omega (arith, less, more)

-- so the same prefixes are crowded
pub crowded_alike : (rules : Rules) (start : ℕ) (keys others : List Key) → HaveSameKeys keys others →
    crowded rules start keys ≡ crowded rules start others
unfolding crowded
crowded_alike rules start keys others same = λ i. sum_by
    (λ depth. count_by
    (λ prefix. nat_lt rules.items (as_many keys others same (λ key. prefix_of rules depth key == prefix) i))
    (range_with_len 0 (2 ^ depth)))
    (range_with_len start (rules.depth - start))

-- a key that is apart from each is not among them
apart : (key : Key) (keys : List Key) → Each (λ other. same_key key other ≡ false) keys → has keys key ≡ false
apart key [] each = refl
apart key (other ∷ keys) each = ap (λ b. b || has keys key) each.0 ∙ apart key keys each.1

-- keys of which none stands twice stay as they are
pub distinct_stay : (keys : List Key) → IsDistinct same_key keys → distinct_keys keys ≡ keys
unfolding IsDistinct
distinct_stay [] distinct = refl
distinct_stay (key ∷ keys) distinct =
    ap (λ b. cond b (distinct_keys keys) (key ∷ distinct_keys keys)) (apart key keys distinct.0)
    ∙ ap (λ rest. key ∷ rest) (distinct_stay keys distinct.1)

-- the same keys, with others after them
pub same_with : (keys others more : List Key) → HaveSameKeys keys others → HaveSameKeys (keys ++ more) (others ++ more)
same_with keys others more same = λ q. list_any-append (same_key q) keys more
    ∙ ap (λ b. b || has more q) (same q) ∙ sym (list_any-append (same_key q) others more)

-- what a dedup leaves has the same keys
dedup_same : (keys : List Key) → HaveSameKeys (dedup same_key keys) keys
dedup_same keys q =
    let exact : (a b : Key) → same_key a b ≡ true → a ≡ b = λ a b. (Decides-same_key a b).0 in
    both_ways (has (dedup same_key keys) q) (has keys q)
    (λ h. list_any-from_Contains same_key-equiv q keys
    (Contains-from_dedup same_key keys q (Contains-from_any exact q (dedup same_key keys) h)))
    (λ h. list_any-from_Contains same_key-equiv q (dedup same_key keys)
    (Contains-dedup same_key-equiv exact keys q (Contains-from_any exact q keys h)))

-- so has what a sort and a dedup leave
pub once_same : (keys sorted once : List Key) → IsPermutation keys sorted → once ≡ dedup same_key sorted →
    HaveSameKeys once keys
once_same keys sorted once moved is q =
    ap (λ kept. has kept q) is ∙ dedup_same sorted q ∙ sym (list_any-IsPermutation (same_key q) keys sorted moved)

-- the same keys, behind others
pub same_behind : (keys others more : List Key) → HaveSameKeys others more →
    HaveSameKeys (keys ++ others) (keys ++ more)
same_behind keys others more same = λ q. list_any-append (same_key q) keys others
    ∙ ap (λ b. has keys q || b) (same q) ∙ sym (list_any-append (same_key q) keys more)

-- what the first keys and the inserted ones crowd, less what the first ones crowd, is how many splits there are at most
pub splits_are : (rules : Rules) (start : ℕ) (first inserted once all : List Key) (before after : ℕ) →
    HaveSameKeys once first → HaveSameKeys all (first ++ inserted) → before ≡ crowded rules start once →
    after ≡ crowded rules start all → after - before ≡ splits_for rules start first inserted
splits_are rules start first inserted once all before after same both before_is after_is =
    let one = before_is ∙ crowded_alike rules start once first same in
    let two = after_is ∙ crowded_alike rules start all (first ++ inserted) both in
    λ i. two i - one i

-- they are as many for the same keys
pub splits_alike : (rules : Rules) (start : ℕ) (first inserted others : List Key) → HaveSameKeys inserted others →
    splits_for rules start first inserted ≡ splits_for rules start first others
splits_alike rules start first inserted others same =
    splits_are rules start first others first (first ++ inserted) (crowded rules start first)
    (crowded rules start (first ++ inserted)) (λ q. refl) (same_behind first inserted others same) refl refl

-- the first keys, each once, and the inserted ones together are the keys of the batch
pub all_keys : (first inserted begun once seen found all : List Key) → begun ≡ first → HaveSameKeys once begun →
    seen ≡ once → HaveSameKeys found (seen ++ inserted) → all ≡ found → HaveSameKeys all (first ++ inserted)
all_keys first inserted begun once seen found all first_are same seen_is both all_is q =
    ap (λ keys. has keys q) all_is ∙ both q ∙ ap (λ keys. has (keys ++ inserted) q) seen_is
    ∙ same_with once first inserted (λ key. same key ∙ ap (λ keys. has keys key) first_are) q

-- ---- the keys of one call more

-- one call more brings its own key, if any
pub inserted_more : (calls : List (ℕ × Call)) (place : ℕ) (nobody : ℕ × Call) → place < length calls →
    inserted_in_calls (take (place + 1) calls)
    ≡ inserted_in_calls (take place calls) ++ inserted_by (get_or calls place nobody).1
inserted_more calls place nobody inside =
    ap inserted_in_calls (take_more calls place nobody inside)
    ∙ flat_map-append (λ asked. inserted_by asked.1) (take place calls) (get_or calls place nobody ∷ [])
    ∙ ap (λ more. inserted_in_calls (take place calls) ++ more) (append-nil (inserted_by (get_or calls place nobody).1))

-- a key that stands there need not be added
pub same_told : (keys inserted : List Key) (key : Key) → has keys key ≡ true → HaveSameKeys keys inserted →
    HaveSameKeys keys (inserted ++ key ∷ [])
same_told keys inserted key there same q =
    same q ∙ sym (list_any-append (same_key q) inserted (key ∷ []) ∙ by (same_key q key) refl)
  where
    by : (b : Bool) → same_key q key ≡ b → (has inserted q || (b || false)) ≡ has inserted q
    by false e = or-false (has inserted q)
    by true e =
        let equal : q ≡ key = (Decides-same_key q key).0 e in
        let yes : has inserted q ≡ true = sym (same q) ∙ ap (has keys) equal ∙ there in
        ap (λ b. b || true) yes ∙ sym yes

-- equal lists have the same keys
pub same_lists : (keys grown others more : List Key) → grown ≡ keys → more ≡ others → HaveSameKeys keys others →
    HaveSameKeys grown more
same_lists keys grown others more grown_is more_is same q =
    ap (λ (l : List Key). has l q) grown_is ∙ same q ∙ sym (ap (λ (l : List Key). has l q) more_is)

-- ---- the keys of two lists

-- of three tests the middle one may as well be the last
last_of_three : (a b c : Bool) → (a || (b || c)) ≡ ((a || c) || (b || false))
last_of_three true b c = refl
last_of_three false true true = refl
last_of_three false true false = refl
last_of_three false false c = sym (or-false c)

-- a key that is added to the first ones, before those that are left, is one more that has been told
pub same_taken : (all left told : List Key) (key : Key) → HaveSameKeys (all ++ left) told →
    HaveSameKeys ((all ++ key ∷ []) ++ left) (told ++ key ∷ [])
same_taken all left told key same q =
    ap (λ keys. has keys q) (append_assoc all (key ∷ []) left)
    ∙ list_any-append (same_key q) all (key ∷ left)
    ∙ last_of_three (has all q) (same_key q key) (has left q)
    ∙ ap (λ b. b || (same_key q key || false)) (sym (list_any-append (same_key q) all left) ∙ same q)
    ∙ sym (list_any-append (same_key q) told (key ∷ []))

-- a key need not be added where the first of those that are left is the same
pub same_left_out : (all keys told : List Key) (place : ℕ) (nobody key : Key) → place < length keys →
    same_key (get_or keys place nobody) key ≡ true → HaveSameKeys (all ++ drop place keys) told →
    HaveSameKeys (all ++ drop place keys) (told ++ key ∷ [])
same_left_out all keys told place nobody key inside is =
    let next : Key = get_or keys place nobody in
    let first : same_key key next ≡ true =
    (Decides-same_key key next).1 (sym ((Decides-same_key next key).0 is)) in
    same_told (all ++ drop place keys) told key
    (list_any-append (same_key key) all (drop place keys)
    ∙ or_right (has all key) (has (drop place keys) key)
    (ap (λ left. has left key) (drop_more keys place nobody inside)
    ∙ ap (λ b. b || has (drop (place + 1) keys) key) first))
