use Rattle.std.proofs.Common.{◌≡◌}
use Rattle.sim_steps.specs.Machine.{left}
use Rattle.sim_totals.specs.Rule.{Under, seat_of}
use Rattle.sim_totals.proofs.steps.run_add.Given as goal

abbrev pub invariant-steps : goal.invariant-steps
invariant-steps g l = record {
  table : l.token.table_id ≡ l.initial.token.table_id;
  under : Under (seat_of l.fn.token.me) l.fn.add l.fn.token.me l.token.me l.machine;
}

abbrev pub decreases-steps : goal.decreases-steps
decreases-steps g l = left l.machine
