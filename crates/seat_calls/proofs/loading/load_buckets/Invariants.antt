use Rattle.std.proofs.Common.{◌≡◌, ◌≤◌, ◌*◌, length, map, take}
use Rattle.std.specs.Prelude.{All}
use Rattle.plain_map.specs.Rows.{HasBucketRoom}
use Rattle.dir_states.specs.Rooms.{HasItems}
use Rattle.dir_states.specs.Views.{as_loaded}
use Rattle.seat_calls.specs.declared.limits.TheConstants.{LOOK_STEPS}
use Rattle.seat_calls.specs.Desks.{settings_at}
use Rattle.seat_calls.specs.Loads.{HasLoaded}
use Rattle.seat_calls.specs.Rooms.{HasLoadedRoom}
use Rattle.seat_calls.specs.Tries.{directory_trying}
use Rattle.seat_calls.proofs.loading.load_buckets.Given as goal

abbrev pub invariant-loop-i : goal.invariant-loop-i
invariant-loop-i g l = record {
  len : length l.loaded ≡ length l.initial.loaded;
  found : HasLoaded (g.S.Steps.now l.initial.steps) (g.S.Steps.now l.steps) l.fn.attempt.round
      (directory_trying l.fn.attempt)
      l.fn.ops (take l.i l.fn.ops) (map as_loaded (take l.count l.loaded)) l.spent;
  few : l.count ≤ l.i;
  short : l.spent ≤ LOOK_STEPS * l.i;
  room : HasBucketRoom (settings_at l.fn.desk).seats (settings_at l.fn.desk).items l.room;
  each : All (HasLoadedRoom (settings_at l.fn.desk)) l.loaded;
  items : All (HasItems (settings_at l.fn.desk).items) (take l.count l.loaded);
}
