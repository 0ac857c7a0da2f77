-- How many keys of a class the sessions hold, against how many items a bucket has.
use Rattle.std.proofs.Common.{◌≡◌, ℕ, suc, Bool, false, cond, List, [], ◌∷◌, map, length, None, refl, sym, ap, ◌∙◌}
use Rattle.std.specs.Prelude.{◌==◌, T, is_some}
use Rattle.std.specs.List.{IsDistinct, AllByRecursion, list_any}
use Rattle.std.specs.declared.cmp.Ordering.{Ordering}
use Rattle.std.specs.declared.cmp.Ordering.TheVariants.{Less, Equal, Greater}
use Rattle.std.specs.Ordering.{eq_by_cmp, is_lt, is_eq}
use Rattle.std.specs.FinMap.{entries, entries_sorted, get, get-entries}
use Rattle.std.specs.FinMap.Entries.{where_key, below_all, is_sorted, is_sorted-where_key, find-where_key, is_some-find}
use Rattle.std.proofs.lemmas.List.Sums.{length-filter}
use Rattle.plain_map.specs.declared.keys.Key.{Key}
use Rattle.plain_map.specs.declared.rules.Rules.{Rules}
use Rattle.plain_map.specs.Keys.{Session, key_cmp}
use Rattle.plain_map.specs.PlainObject.{Sessions, pairs_of, class_of, class_size}
use Rattle.plain_map.proofs.KeyLemmas.{exact_keys}
use Rattle.plain_map.proofs.LocalityLemmas.{count_by-pairs}
use Rattle.plain_map.proofs.PlaceLemmas.{first_holds, second_holds}
use Rattle.bucket_states.specs.Items.{same_key}
use Rattle.bucket_states.proofs.KeyTests.{eq_by_cmp-same_key}

-- ---- the keys of entries in order

abbrev pub entry_keys : List (Key × Session) → List Key
entry_keys es = map (λ (e : Key × Session). e.0) es

less_apart : (a b : Key) → T (is_lt (key_cmp a b)) → same_key a b ≡ false
less_apart a b so = sym (eq_by_cmp-same_key a b) ∙ by (key_cmp a b) so
  where
    by : (r : Ordering) → T (is_lt r) → is_eq r ≡ false
    by Less so = refl
    by Equal so = absurd so
    by Greater so = absurd so

below_apart : (x : Key) (es : List (Key × Session)) → T (below_all key_cmp x es) →
    AllByRecursion (λ k. same_key x k ≡ false) (entry_keys es)
below_apart x [] below = tt
below_apart x (e ∷ es) below = (less_apart x e.0 (first_holds _ _ below), below_apart x es (second_holds _ _ below))

pub sorted_distinct : (es : List (Key × Session)) → T (is_sorted key_cmp es) → IsDistinct same_key (entry_keys es)
unfolding IsDistinct
sorted_distinct [] sorted = tt
sorted_distinct (e ∷ es) sorted =
    (below_apart e.0 es (first_holds _ _ sorted), sorted_distinct es (second_holds _ _ sorted))

pub list_any-alike : (p q : Key → Bool) → ((k : Key) → p k ≡ q k) → (ks : List Key) → list_any p ks ≡ list_any q ks
list_any-alike p q same [] = refl
list_any-alike p q same (k ∷ ks) = cc (same k, list_any-alike p q same ks)

-- ---- the keys of a class

module _ (rules : Rules) (sessions : Sessions) (class : ℕ) where
  abbrev pub in_class : Key → Bool
  in_class key = class_of rules key == class

  abbrev pub of_class : List (Key × Session)
  of_class = where_key key_cmp in_class (entries sessions)

  length-map : (es : List (Key × Session)) → length (entry_keys es) ≡ length es
  length-map [] = refl
  length-map (e ∷ es) = ap (λ (n : ℕ). suc n) (length-map es)

  -- the size of the class is how many they are
  pub class_size-keys : class_size rules sessions class ≡ length (entry_keys of_class)
  unfolding class_size pairs_of
  class_size-keys = count_by-pairs in_class (entries sessions)
      ∙ sym (length-filter (λ (e : Key × Session). in_class e.0) (entries sessions)) ∙ sym (length-map of_class)

  pub distinct_of_class : IsDistinct same_key (entry_keys of_class)
  distinct_of_class = sorted_distinct of_class
      (is_sorted-where_key key_cmp in_class (entries sessions) (entries_sorted sessions))

  -- a key is among them exactly where it is of the class and has a value
  pub member_of_class : (q : Key) →
      list_any (same_key q) (entry_keys of_class) ≡ is_some (cond (in_class q) (get sessions q) None)
  member_of_class q =
      list_any-alike (same_key q) (eq_by_cmp key_cmp q) (λ k. sym (eq_by_cmp-same_key q k)) (entry_keys of_class)
      ∙ sym (is_some-find key_cmp q of_class)
      ∙ ap is_some (find-where_key key_cmp in_class q (λ x tie. ap in_class (sym (exact_keys q x tie)))
      (entries sessions))
      ∙ ap (λ o. is_some (cond (in_class q) o None)) (sym (get-entries sessions q))
