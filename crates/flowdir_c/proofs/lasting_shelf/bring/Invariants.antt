use Rattle.std.proofs.Common.{take}
use Rattle.lasting_table.specs.Values.{IsSame}
use Rattle.flowdir_c.specs.LastingShelves.{HasBrought}
use Rattle.flowdir_c.proofs.lasting_shelf.bring.Given as goal

-- the pairs that were reached were new
abbrev pub invariant-loop-pair : goal.invariant-loop-pair
invariant-loop-pair l = record {
  same : IsSame l.fn.seat l.seat;
  brought : HasBrought (take l.pair-index l.pairs) l.fn.seat l.seat;
}
