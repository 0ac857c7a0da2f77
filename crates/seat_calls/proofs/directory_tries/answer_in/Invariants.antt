use Rattle.std.proofs.Common.{◌≡◌, ◌+◌, drop, map}
use Rattle.plain_map.specs.Calls.{key_in}
use Rattle.table_model.specs.Goes.{answered_by_leaf}
use Rattle.table_model.specs.SeatStates.{Flight}
use Rattle.dir_states.specs.Views.{as_leaf}
use Rattle.seat_calls.proofs.directory_tries.answer_in.Given as goal

abbrev pub invariant-loop-i : goal.invariant-loop-i
invariant-loop-i l = record {
  rest : (flight : Flight) → l.own.key.key ≡ key_in flight.call →
      answered_by_leaf l.desk.rules l.desk.seat flight l.row (map as_leaf l.leaves)
      ≡ answered_by_leaf l.desk.rules l.desk.seat flight (l.row + l.i) (drop l.i (map as_leaf l.leaves));
}
