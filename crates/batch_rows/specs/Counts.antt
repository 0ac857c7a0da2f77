-- How keys are counted prefix by prefix.
use Rattle.std.specs.Prelude.{◌≡◌, ℕ, ◌+◌, ◌*◌, ◌^◌, ◌<◌, ◌≤◌, ◌==◌, List, count_by, length, slice_index}
use Rattle.std.specs.List.{list_any}
use Rattle.std.specs.List.Sorted.{IsStrictlySortedBy}
use Rattle.plain_map.specs.declared.keys.Key.{Key}
use Rattle.plain_map.specs.declared.rules.Rules.{Rules}
use Rattle.plain_map.specs.Keys.{key_cmp}
use Rattle.bucket_states.specs.Items.{prefix_of, same_key}

-- the same keys stand in both
abbrev pub HaveSameKeys : List Key → List Key → Type 0
HaveSameKeys keys others = (key : Key) → list_any (same_key key) keys ≡ list_any (same_key key) others

-- keys stand in order, each once: each is less than those after it
abbrev pub AreInOrder : List Key → Type 0
AreInOrder = IsStrictlySortedBy key_cmp

-- the first counts are those of the prefixes of a depth
pub record AreCounted (rules : Rules) (keys : List Key) (depth : ℕ) (counts : List ℕ) : Type 0 where
  pub long : 2 ^ depth ≤ length counts
  pub each : (prefix : ℕ) → prefix < 2 ^ depth →
      slice_index counts prefix ≡ count_by (λ key. prefix_of rules depth key == prefix) keys

-- the counts of the two halves of a prefix together
abbrev pub both_at : List ℕ → ℕ → ℕ
both_at counts prefix = slice_index counts (2 * prefix) + slice_index counts (2 * prefix + 1)
