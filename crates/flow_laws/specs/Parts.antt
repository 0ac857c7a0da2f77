-- What the pairs of all buckets come to: each bucket holds the pairs of its class, so together they are all pairs that
-- are held.
use Rattle.std.specs.Prelude.{◌≡◌, ℕ, ◌<◌, ◌^◌, List, flat_map, IsPermutation}
use Rattle.std.specs.List.{range_with_len}
use Rattle.std.specs.List.Sorted.{IsSortedByKey}
use Rattle.plain_map.specs.declared.keys.Pair.{Pair}
use Rattle.plain_map.specs.declared.rules.Rules.{Rules}
use Rattle.plain_map.specs.Keys.{key_cmp}
use Rattle.plain_map.specs.PlainObject.{Sessions, pairs_of}
use Rattle.bucket_states.specs.Parts.{HoldsPart}

-- where each bucket holds the pairs of its class, all of them, sorted by their keys, are the pairs of the sessions
abbrev pub PartsAreSessions : Type 0
PartsAreSessions =
    (rules : Rules) (sessions : Sessions) (parts : ℕ → List Pair) (pairs : List Pair) →
    ((bucket : ℕ) → bucket < 2 ^ rules.depth → HoldsPart rules bucket rules.depth (parts bucket) sessions) →
    IsPermutation (flat_map parts (range_with_len 0 (2 ^ rules.depth))) pairs →
    IsSortedByKey (λ pair. pair.key) key_cmp pairs → pairs ≡ pairs_of sessions
