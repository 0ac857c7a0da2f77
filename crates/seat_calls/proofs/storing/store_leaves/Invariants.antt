use Rattle.std.proofs.Common.{◌≡◌, ◌+◌, ◌*◌, ◌++◌, ◌≤◌, drop, map}
use Rattle.plain_map.specs.Rows.{HasBucketRoom}
use Rattle.table_model.specs.Stores.{base_of_leaf, leaf_puts}
use Rattle.dir_states.specs.Views.{as_leaf, as_loaded}
use Rattle.seat_calls.specs.declared.limits.TheConstants.{LOOK_STEPS}
use Rattle.seat_calls.specs.Changes.{changing}
use Rattle.seat_calls.specs.Desks.{settings_at}
use Rattle.seat_calls.specs.Going.{later}
use Rattle.seat_calls.specs.Puts.{directory_row_puts, puts_of, storing}
use Rattle.seat_calls.proofs.storing.store_leaves.Given as goal

abbrev pub invariant-loop-i : goal.invariant-loop-i
invariant-loop-i g l = record {
  goes : g.S.Steps.now l.steps ≡ later (g.S.Steps.now l.initial.steps) l.stored
      (storing (g.S.Steps.now l.initial.steps) (changing l.fn.found) l.stored);
  left : drop l.stored (puts_of (g.S.Steps.now l.initial.steps) (changing l.fn.found))
      ≡ leaf_puts (g.S.Steps.now l.initial.steps).setup (base_of_leaf (map as_loaded l.fn.found.loaded.now))
      (l.fn.bucket + l.i) (l.fn.number + l.i) (drop l.i (map as_leaf l.fn.leaves))
      ++ directory_row_puts (g.S.Steps.now l.initial.steps) (changing l.fn.found);
  few : l.stored ≤ LOOK_STEPS * l.i;
  row : HasBucketRoom (settings_at l.fn.desk).seats (settings_at l.fn.desk).items l.row;
}
