use Rattle.std.proofs.Common.{◌≡◌, drop, map}
use Rattle.table_model.specs.DirectoryChange.{loaded_of}
use Rattle.dir_states.specs.Views.{as_loaded}
use Rattle.dir_states.proofs.values.loaded_place.Given as goal

abbrev pub invariant-loop-place : goal.invariant-loop-place
invariant-loop-place l = loaded_of (map as_loaded (drop l.place l.loaded)) l.bucket ≡ loaded_of
    (map as_loaded l.loaded) l.bucket
