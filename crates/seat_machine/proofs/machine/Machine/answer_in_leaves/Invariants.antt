use Rattle.std.proofs.Common.{◌≡◌, ◌+◌, drop, map}
use Rattle.table_model.specs.Goes.{answered_by_leaf}
use Rattle.table_model.specs.Setup.{rules_of}
use Rattle.dir_states.specs.Changes.{leaves_of}
use Rattle.dir_states.specs.Views.{as_leaf}
use Rattle.seat_machine.specs.View.{flight_of, setup_of}
use Rattle.seat_machine.proofs.machine.Machine.answer_in_leaves.Given as goal

abbrev pub invariant-loop-i : goal.invariant-loop-i
invariant-loop-i l = record {
  rest : answered_by_leaf (rules_of (setup_of l.self)) l.self.seat (flight_of l.self) l.row (leaves_of l.self.change)
      ≡ answered_by_leaf (rules_of (setup_of l.self)) l.self.seat (flight_of l.self) (l.row + l.i)
      (map as_leaf (drop l.i l.leaves));
}
