use Rattle.plain_map.specs.PlainObject.{Sessions}
use Rattle.class_map.specs.Pairs.{IsHeld}
use Rattle.class_map.specs.Rows.{Holds}
use Rattle.class_map.proofs.PairLemmas.{UpTo}
use Rattle.class_map.proofs.rows.ClassMap.holds_all.Given as goal

abbrev pub invariant-loop-pair : goal.invariant-loop-pair
invariant-loop-pair l =
    (sessions : Sessions) → Holds l.self l.rules sessions → UpTo (IsHeld sessions) l.pairs l.pair-index
