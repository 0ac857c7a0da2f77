-- So many seats are looked at.
use Rattle.std.proofs.Common.{◌≡◌}
use Rattle.lasting_calls.specs.Sweeps.{AtSeat, IsAtSeat}
use Rattle.lasting_calls.proofs.sweeping.look_seats.Given as goal

abbrev pub invariant-loop-seat : goal.invariant-loop-seat
invariant-loop-seat g l = record {
  looked : (a : IsAtSeat (g.S.Steps.now l.initial.steps) 0 l.initial.rows) →
      AtSeat a.first (g.S.Steps.now l.steps) a.update l.seat l.rows;
  sweeps : l.rows.sweeps ≡ l.initial.rows.sweeps;
}
