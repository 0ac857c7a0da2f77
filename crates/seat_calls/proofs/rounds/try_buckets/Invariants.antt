use Rattle.std.proofs.Common.{◌≡◌, ◌+◌, ◌-◌, ◌*◌, ◌≤◌}
use Rattle.table_model.specs.Phases.{TryWord}
use Rattle.seat_calls.specs.declared.limits.TheConstants.{TRY_STEPS}
use Rattle.seat_calls.specs.Going.{went}
use Rattle.seat_calls.proofs.rounds.try_buckets.Given as goal

abbrev pub invariant-tries : goal.invariant-tries
invariant-tries g l = record {
  goes : g.S.Steps.now l.steps ≡ went (g.S.Steps.now l.initial.steps) l.used l.spent
      (TryWord l.fn.round l.turn l.first);
  turn : (1 ≤ l.turn) × (l.turn ≤ 3);
  few : l.spent + TRY_STEPS ≤ TRY_STEPS * l.turn;
}

abbrev pub decreases-tries : goal.decreases-tries
decreases-tries g l = 4 - l.turn
