use Rattle.std.proofs.Common.{◌≡◌}
use Rattle.std.specs.Prelude.{vec_capacity, vec_len}
use Rattle.seat_calls.proofs.directories.make_places.Given as goal

abbrev pub invariant-loop : goal.invariant-loop
invariant-loop l = record {
  depth : l.directory.depth ≡ l.fn.depth;
  entries : vec_len l.directory.entries ≡ l.counter;
  room : vec_capacity l.directory.entries ≡ vec_capacity l.initial.directory.entries;
}
