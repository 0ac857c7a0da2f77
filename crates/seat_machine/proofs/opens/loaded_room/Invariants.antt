use Rattle.std.proofs.Common.{◌≡◌, All}
use Rattle.std.specs.Prelude.{vec_capacity, vec_len}
use Rattle.seat_machine.specs.Room.{HasLoadedRoom}
use Rattle.seat_machine.proofs.opens.loaded_room.Given as goal

abbrev pub invariant-loop : goal.invariant-loop
invariant-loop l = record {
  many : vec_len l.loaded ≡ l.counter;
  room : vec_capacity l.loaded ≡ vec_capacity l.initial.loaded;
  each : All (HasLoadedRoom l.settings) l.loaded.items;
}
