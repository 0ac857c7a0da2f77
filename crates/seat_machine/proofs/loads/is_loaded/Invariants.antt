use Rattle.std.proofs.Common.{◌≡◌, drop, map}
use Rattle.std.specs.List.{list_any}
use Rattle.table_model.specs.DirectoryChange.{is_bucket}
use Rattle.dir_states.specs.Views.{as_loaded}
use Rattle.seat_machine.proofs.loads.is_loaded.Given as goal

abbrev pub invariant-loop-one : goal.invariant-loop-one
invariant-loop-one l = record {
  rest : list_any (is_bucket l.bucket) (map as_loaded (drop l.one-index l.loaded))
      ≡ list_any (is_bucket l.bucket) (map as_loaded l.loaded);
}
