use Rattle.plain_map.specs.Places.{IsInKeyOrder}
use Rattle.class_map.specs.Pairs.{IsIn}
use Rattle.class_map.proofs.PairLemmas.{UpTo}
use Rattle.class_map.proofs.pairs.are_in.Given as goal

abbrev pub invariant-loop-pair : goal.invariant-loop-pair
invariant-loop-pair l = IsInKeyOrder l.pairs → UpTo (IsIn l.pairs) l.some l.pair-index
