use Rattle.std.proofs.Common.{◌≡◌, drop, vec_len, vec_capacity}
use Rattle.sim_steps.specs.Program.{apply_all}
use Rattle.sim_steps.proofs.rows.apply_found.Given as goal

abbrev pub invariant-loop-seat : goal.invariant-loop-seat
invariant-loop-seat l = record {
  rest : apply_all l.seat (drop l.seat l.found.items) l.row.items ≡ apply_all 0 l.found.items l.initial.row.items;
  len : vec_len l.row ≡ vec_len l.initial.row;
  room : vec_capacity l.row ≡ vec_capacity l.initial.row;
}
