use Rattle.plain_map.specs.Places.{IsInKeyOrder}
use Rattle.class_map.specs.Pairs.{AreAmong}
use Rattle.class_map.proofs.PairLemmas.{UpTo}
use Rattle.class_map.proofs.rows.ClassMap.holds_no_other.Given as goal

abbrev pub invariant-loop-row : goal.invariant-loop-row
invariant-loop-row l = IsInKeyOrder l.pairs → UpTo (AreAmong l.pairs) l.self l.row-index
