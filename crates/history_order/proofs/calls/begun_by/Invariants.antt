use Rattle.std.proofs.Common.{◌≡◌, drop}
use Rattle.std.specs.Prelude.{◌==◌, find}
use Rattle.history_order.proofs.calls.begun_by.Given as goal

abbrev pub invariant-loop-pending : goal.invariant-loop-pending
invariant-loop-pending l =
    find (λ p. p.seat == l.seat) (drop l.pending-index l.begun) ≡ find (λ p. p.seat == l.seat) l.begun
