use Rattle.std.proofs.Common.{◌≡◌, map, take}
use Rattle.flowdir_c.specs.Told.{pair_of}
use Rattle.flowdir_c.proofs.lasting_holder.put_pairs.Given as goal

-- the pairs that were reached are written
abbrev pub invariant-loop-i : goal.invariant-loop-i
invariant-loop-i l = map pair_of (take l.i l.out) ≡ take l.i l.pairs
