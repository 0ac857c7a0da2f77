-- A directory try at hand.
use Rattle.std.specs.Prelude.{map}
use Rattle.dir_states.specs.Views.{as_loaded}
use Rattle.seat_calls.specs.Puts.{Changing}
use Rattle.seat_calls.specs.Tries.{directory_trying}
use Rattle.seat_calls.specs.declared.storing.Found.{Found}

-- the try, the ops that it found and the buckets that it loaded
abbrev pub changing : Found → Changing
changing found = record {
  round = found.attempt.round;
  attempt = directory_trying found.attempt;
  found = found.ops.now;
  loaded = map as_loaded found.loaded.now;
}
