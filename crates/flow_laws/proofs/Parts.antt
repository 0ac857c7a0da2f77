-- The pairs of all buckets, one bucket after the other: they are the pairs of the sessions, in some order.
use Rattle.std.proofs.Common.{◌≡◌, ℕ, zero, suc, ◌+◌, ◌-◌, ◌/◌, ◌<◌, ◌≤◌, ◌^◌, List, Some, refl, inl, inr, sym, ◌∙◌, subst, arith}
use Rattle.std.proofs.Math.Pow.{pow_mono}
use Rattle.std.specs.Prelude.{flat_map, IsPermutation}
use Rattle.std.specs.List.{range_with_len}
use Rattle.std.specs.FinMap.{get}
use Rattle.std.proofs.lemmas.Bool.{cases_lt}
use Rattle.std.proofs.lemmas.List.Sorted.{IsPermutation-trans}
use Rattle.hash_bits.specs.Prefix.{first_bits}
use Rattle.hash_bits.proofs.PrefixLemmas.{first_bits-within}
use Rattle.plain_map.specs.declared.keys.Key.{Key}
use Rattle.plain_map.specs.declared.keys.Pair.{Pair}
use Rattle.plain_map.specs.declared.rules.Rules.{Rules}
use Rattle.plain_map.specs.Keys.{hash_of_key, held_in}
use Rattle.plain_map.specs.PlainObject.{Sessions, pairs_of}
use Rattle.plain_map.proofs.KeyLemmas.{hash_of_key-within}
use Rattle.bucket_states.specs.Items.{prefix_of}
use Rattle.bucket_states.specs.Parts.{HoldsPart}
use Rattle.list_laws.proofs.Lists.{In, Once, flat_map_in, in_flat_map, in_range, range_in, same_members}
use Rattle.closed_laws.proofs.ClosedPairs.{held_there, once_flat}
use Rattle.closed_laws.proofs.HeldPairs.{items_distinct, pairs_are_held}
use Rattle.order_laws.proofs.KeyOrder.{sorted_is_held}
use Rattle.flow_laws.specs.Parts.{PartsAreSessions}

-- the numbers of a range stand once each
once_range : (start count : ℕ) → Once (range_with_len start count)
once_range start zero = tt
once_range start (suc count) = (
  (λ i. absurd (let inside = in_range (start + 1) count start i in omega (arith, inside.0))),
  once_range (start + 1) count,
)

-- from depth 64 on, a hash is its own first bits
all_bits : (hash depth : ℕ) → hash < 2 ^ 64 → 64 < depth → first_bits hash depth < 2 ^ depth
unfolding first_bits
all_bits hash depth small deep =
    let up : 2 ^ 64 ≤ 2 ^ depth = pow_mono {i = 64} {j = depth} (omega (arith, deep)) in
    let none : 0 ≡ 64 - depth = omega (arith, deep) in
    subst (λ (rest : ℕ). hash / 2 ^ rest < 2 ^ depth) none (omega (arith, small, up))

-- so many first bits make one of so many numbers
bits_within : (hash depth : ℕ) → hash < 2 ^ 64 → first_bits hash depth < 2 ^ depth
bits_within hash depth small = elim (cases_lt 64 depth) [
  | inl deep ↦ all_bits hash depth small deep
  | inr few ↦ first_bits-within hash depth small (omega (arith, few))
]

-- each key is in one of the classes
class_within : (rules : Rules) (key : Key) → prefix_of rules rules.depth key < 2 ^ rules.depth
unfolding prefix_of
class_within rules key = bits_within (hash_of_key rules.hashing key) rules.depth (hash_of_key-within rules.hashing key)

module _ (rules : Rules) (sessions : Sessions) (parts : ℕ → List Pair)
    (holds : (bucket : ℕ) → bucket < 2 ^ rules.depth → HoldsPart rules bucket rules.depth (parts bucket) sessions) where
  abbrev buckets : List ℕ
  buckets = range_with_len 0 (2 ^ rules.depth)

  -- a bucket of the range is one that there is
  within : (bucket : ℕ) → In bucket buckets → bucket < 2 ^ rules.depth
  within bucket i = omega (arith, (in_range 0 (2 ^ rules.depth) bucket i).1)

  -- a pair of a bucket is in the bucket's class, and is what is held at its key
  of_bucket : (bucket : ℕ) (pair : Pair) → In bucket buckets → In pair (parts bucket) →
      (prefix_of rules rules.depth pair.key ≡ bucket) × (get sessions pair.key ≡ Some (held_in pair))
  of_bucket bucket pair i m =
      let part = holds bucket (within bucket i) in
      let value = (items_distinct (parts bucket) part.distinct).there pair m in
      let class = part.inside pair.key (held_in pair) value in
      (class, sym (part.same pair.key class) ∙ value)

  -- no pair stands twice
  once : Once (flat_map parts buckets)
  once = once_flat parts buckets (once_range 0 (2 ^ rules.depth))
      (λ bucket i. (items_distinct (parts bucket) (holds bucket (within bucket i)).distinct).once)
      (λ a b pair i j m n. sym (of_bucket a pair i m).0 ∙ (of_bucket b pair j n).0)

  -- a pair that is held is in the bucket of its class
  in_parts : (pair : Pair) → get sessions pair.key ≡ Some (held_in pair) → In pair (flat_map parts buckets)
  in_parts pair held =
      let class = prefix_of rules rules.depth pair.key in
      let low = class_within rules pair.key in
      flat_map_in parts buckets class pair (range_in 0 (2 ^ rules.depth) class (omega arith) (omega (arith, low)))
      (held_there (parts class) pair.key (held_in pair) ((holds class low).same pair.key refl ∙ held))

  -- so the pairs of all buckets are those of the sessions, in some order
  parts_are : IsPermutation (pairs_of sessions) (flat_map parts buckets)
  parts_are =
      let pairs = pairs_are_held sessions in
      same_members (pairs_of sessions) (flat_map parts buckets) pairs.once once
      (λ pair i. in_parts pair (pairs.there pair i))
      (λ pair i. let r = in_flat_map parts buckets pair i in pairs.back pair (of_bucket r.0 pair r.1 r.2).1)

-- sorted by their keys they are the pairs of the sessions
pub parts_are_sessions : PartsAreSessions
parts_are_sessions rules sessions parts pairs holds moved sorted =
    sorted_is_held sessions pairs
    (IsPermutation-trans (pairs_of sessions) (flat_map parts (range_with_len 0 (2 ^ rules.depth))) pairs
    (parts_are rules sessions parts holds) moved)
    sorted
