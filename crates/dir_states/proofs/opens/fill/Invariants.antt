use Rattle.std.proofs.Common.{◌≡◌, [], map, take}
use Rattle.table_model.specs.Opening.{opening_directory}
use Rattle.dir_states.specs.Cuts.{cut_leaves}
use Rattle.dir_states.specs.Openings.{OpeningHasRoom, first_directory}
use Rattle.dir_states.specs.Views.{as_leaf}
use Rattle.dir_states.proofs.opens.fill.Given as goal

abbrev pub invariant-loop-pair : goal.invariant-loop-pair
invariant-loop-pair l = record {
  directory : first_directory l.out ≡ opening_directory l.start
      (cut_leaves l.table.rules l.table.seats l.first [] l.start);
  filled : map as_leaf l.out.leaves.made.items ≡ cut_leaves l.table.rules l.table.seats l.first
      (take l.pair-index l.first) l.start;
  room : OpeningHasRoom l.table.seats l.table.rules.items l.table.rules.depth l.out;
}
