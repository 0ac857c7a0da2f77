-- How many keys of a list each class has.
use Rattle.std.specs.Prelude.{◌≡◌, ℕ, ◌^◌, ◌<◌, List, length, slice_index}
use Rattle.plain_map.specs.declared.keys.Pair.{Pair}
use Rattle.plain_map.specs.declared.rules.Rules.{Rules}
use Rattle.plain_map.specs.PlainObject.{InRange}
use Rattle.plain_map.specs.Held.{count_in_class}
use Rattle.class_map.specs.declared.class_counts.ClassCounts.{ClassCounts}

-- there is a count for each class
pub record HasEachClass (rules : Rules) (counts : List ℕ) : Type 0 where
  pub range : InRange rules
  pub classes : length counts ≡ 2 ^ rules.depth

-- and it is how many of the pairs have their key in the class
pub record AreCounts (rules : Rules) (pairs : List Pair) (counts : List ℕ) : Type 0 where
  pub each : HasEachClass rules counts
  pub exact : (class : ℕ) → class < 2 ^ rules.depth → slice_index counts class ≡ count_in_class rules class pairs

-- these are the counts of these pairs
abbrev pub AreCountsOf : List Pair → ClassCounts → Type 0
AreCountsOf pairs c = AreCounts c.rules pairs c.counts.items
