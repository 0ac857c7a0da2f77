use Rattle.std.proofs.Common.{◌≡◌, ◌-◌, ◌^◌, ◌<◌, ◌≤◌}
use Rattle.table_model.specs.Phases.{DirRoot}
use Rattle.seat_calls.specs.Desks.{settings_at}
use Rattle.seat_calls.specs.Going.{went}
use Rattle.seat_calls.specs.Rooms.{HasAllRoom}
use Rattle.seat_calls.proofs.rounds.try_directories.Given as goal

abbrev pub invariant-tries : goal.invariant-tries
invariant-tries g l = record {
  goes : g.S.Steps.now l.steps ≡ went (g.S.Steps.now l.initial.steps) l.used l.spent
      (DirRoot l.fn.round l.turn l.first);
  room : HasAllRoom (settings_at l.fn.desk) l.room;
  turn : (1 ≤ l.turn) × (l.turn ≤ 2);
  few : l.spent < 2 ^ 62;
}

abbrev pub decreases-tries : goal.decreases-tries
decreases-tries g l = 3 - l.turn
