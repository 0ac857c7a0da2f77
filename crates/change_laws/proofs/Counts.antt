-- How many keys of a prefix are held, where the items of a bucket are the part of that prefix.
use Rattle.std.proofs.Common.{◌≡◌, ℕ, suc, ◌+◌, Bool, cond, List, [], ◌∷◌, map, length, Some, None, refl, sym, ap, ◌∙◌, arith, ◌≤◌, Option}
use Rattle.std.specs.Prelude.{◌==◌, is_some}
use Rattle.std.specs.List.{IsDistinct, list_any, count_by}
use Rattle.std.specs.Ordering.{eq_by_cmp}
use Rattle.std.specs.FinMap.{entries, entries_sorted, get, get-entries}
use Rattle.std.specs.FinMap.Entries.{where_key, is_sorted-where_key, find-where_key, is_some-find}
use Rattle.std.proofs.lemmas.Bool.{eqb-true, eq-eqb}
use Rattle.std.proofs.lemmas.List.{length-map}
use Rattle.std.proofs.lemmas.List.Sums.{sum_by-cons, length-filter}
use Rattle.std.proofs.lemmas.Map.Made.{length-le_from_is_member}
use Rattle.plain_map.specs.declared.keys.Key.{Key}
use Rattle.plain_map.specs.declared.keys.Pair.{Pair}
use Rattle.plain_map.specs.declared.rules.Rules.{Rules}
use Rattle.plain_map.specs.Keys.{key_cmp, pair_of, Session}
use Rattle.plain_map.specs.PlainObject.{Sessions, pairs_of}
use Rattle.plain_map.proofs.KeyLemmas.{exact_keys}
use Rattle.bucket_states.specs.Items.{prefix_of, same_key, value_at}
use Rattle.bucket_states.specs.Parts.{keys_of, HoldsPart}
use Rattle.table_model.specs.Closed.{keys_with_prefix}
use Rattle.table_model.specs.Directories.{DirectoryState}
use Rattle.table_model.specs.DirectoryChange.{buckets_of}
use Rattle.bucket_states.proofs.KeyTests.{eq_by_cmp-same_key, same_key-equiv}
use Rattle.bucket_states.proofs.ItemLemmas.{is_some-value_at}
use Rattle.bucket_states.proofs.SizeLemmas.{entry_keys, sorted_distinct, list_any-alike}
use Rattle.bucket_states.proofs.PartLemmas.{both_hold, some_of}
use Rattle.bucket_states.specs.declared.ops.Op.{Op}

module _ (test : Key → Bool) (sessions : Sessions) where
  -- the entries whose keys pass
  abbrev of_test : List (Key × Session)
  of_test = where_key key_cmp test (entries sessions)

  -- as many pairs pass as entries
  counted-pairs : (es : List (Key × Session)) →
      count_by (λ (p : Pair). test p.key) (map pair_of es) ≡ count_by (λ (e : Key × Session). test e.0) es
  counted-pairs [] = refl
  counted-pairs (e ∷ es) =
      sum_by-cons (λ (p : Pair). cond (test p.key) 1 0) (pair_of e) (map pair_of es)
      ∙ ap (λ (n : ℕ). cond (test e.0) 1 0 + n) (counted-pairs es)
      ∙ sym (sum_by-cons (λ (e : Key × Session). cond (test e.0) 1 0) e es)

  -- there are as many keys as entries
  keys-long : (es : List (Key × Session)) → length (entry_keys es) ≡ length es
  keys-long [] = refl
  keys-long (e ∷ es) = ap (λ (n : ℕ). suc n) (keys-long es)

  -- as many pairs pass as there are keys that do
  counted-keys : count_by (λ (p : Pair). test p.key) (pairs_of sessions) ≡ length (entry_keys of_test)
  unfolding pairs_of
  counted-keys =
      counted-pairs (entries sessions) ∙ sym (length-filter (λ (e : Key × Session). test e.0) (entries sessions))
      ∙ sym (keys-long of_test)

  -- no key that passes stands twice
  tested-distinct : IsDistinct same_key (entry_keys of_test)
  tested-distinct =
      sorted_distinct of_test (is_sorted-where_key key_cmp test (entries sessions) (entries_sorted sessions))

  -- a key is among them where it is held and passes
  tested-member : (q : Key) → list_any (same_key q) (entry_keys of_test) ≡ is_some (cond (test q) (get sessions q) None)
  tested-member q =
      list_any-alike (same_key q) (eq_by_cmp key_cmp q) (λ k. sym (eq_by_cmp-same_key q k)) (entry_keys of_test)
      ∙ sym (is_some-find key_cmp q of_test)
      ∙ ap is_some (find-where_key key_cmp test q (λ x tie. ap test (sym (exact_keys q x tie))) (entries sessions))
      ∙ ap (λ o. is_some (cond (test q) o None)) (sym (get-entries sessions q))

-- as many as the items
pub keys-of-part : (rules : Rules) (prefix depth : ℕ) (items : List Pair) (sessions : Sessions) →
    HoldsPart rules prefix depth items sessions → keys_with_prefix rules depth prefix sessions ≡ length items
keys-of-part rules prefix depth items sessions part =
    let test : Key → Bool = λ key. prefix_of rules depth key == prefix in
    let few = length-le_from_is_member same_key-equiv (entry_keys (of_test test sessions)) (keys_of items)
    (tested-distinct test sessions) (λ q is.
    let facts = both_hold (test q) (get sessions q) (sym (tested-member test sessions q) ∙ is) in
    sym (is_some-value_at q items) ∙ ap is_some (part.same q (eqb-true (prefix_of rules depth q) prefix facts.0))
    ∙ facts.1) in
    let many = length-le_from_is_member same_key-equiv (keys_of items) (entry_keys (of_test test sessions))
    part.distinct (λ q is.
    let held = some_of (value_at q items) (is_some-value_at q items ∙ is) in
    let there = part.inside q held.0 held.1 in
    let kept : get sessions q ≡ Some held.0 = sym (part.same q there) ∙ held.1 in
    tested-member test sessions q ∙ ap (λ b. is_some (cond b (get sessions q) None))
    (eq-eqb (prefix_of rules depth q) prefix there) ∙ ap is_some kept) in
    omega (arith, few, many, counted-keys test sessions, length-map items (λ (p : Pair). p.key))

-- one op has one bucket at most
pub buckets-few : (rules : Rules) (directory : DirectoryState) (ops : List (Option Op)) →
    length (buckets_of rules directory ops) ≤ length ops
buckets-few rules directory [] = omega arith
buckets-few rules directory (None ∷ ops) = omega (arith, buckets-few rules directory ops)
buckets-few rules directory (Some op ∷ ops) = omega (arith, buckets-few rules directory ops)
