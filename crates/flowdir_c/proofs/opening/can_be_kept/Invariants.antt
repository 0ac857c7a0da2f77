use Rattle.std.proofs.Common.{map, take}
use Rattle.std.specs.Prelude.{All}
use Rattle.table_model.specs.Setup.{IsPair}
use Rattle.flowdir_c.specs.Told.{pair_of}
use Rattle.flowdir_c.proofs.opening.can_be_kept.Given as goal

abbrev pub invariant-loop-given : goal.invariant-loop-given
invariant-loop-given l = All IsPair (map pair_of (take l.given-index l.first))
