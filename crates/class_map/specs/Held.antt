-- What a plain map keeps.
use Rattle.std.specs.Prelude.{List, Option}
use Rattle.std.specs.Option.{ForSome}
use Rattle.plain_map.specs.declared.keys.Pair.{Pair}
use Rattle.plain_map.specs.Places.{IsInKeyOrder}
use Rattle.class_map.specs.declared.class_counts.ClassCounts.{ClassCounts}
use Rattle.class_map.specs.ClassCounts.{AreCountsOf}

-- the pairs are in the order of their keys, and the counts are theirs, where there are any
pub record IsKept (pairs : List Pair) (counts : Option ClassCounts) : Type 0 where
  pub ordered : IsInKeyOrder pairs
  pub counted : ForSome counts (AreCountsOf pairs)
