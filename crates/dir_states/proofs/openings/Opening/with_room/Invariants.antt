use Rattle.std.proofs.Common.{◌≡◌, All, vec_len, vec_capacity}
use Rattle.dir_states.specs.Openings.{IsOpen}
use Rattle.dir_states.proofs.openings.Opening.with_room.Given as goal

abbrev pub invariant-loop : goal.invariant-loop
invariant-loop l = record {
  each : All (IsOpen l.settings.seats l.settings.items) l.spare.items;
  len : vec_len l.spare ≡ l.counter;
  room : vec_capacity l.spare ≡ l.most;
}
