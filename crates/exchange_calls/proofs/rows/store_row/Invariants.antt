-- The words so far are stored: items, and then entries.
use Rattle.std.proofs.Common.{◌≡◌, ◌+◌, ◌*◌, length}
use Rattle.exchange_calls.specs.Hands.{IsStoring}
use Rattle.exchange_calls.proofs.StoreLemmas.{store_family}
use Rattle.exchange_calls.proofs.rows.store_row.Given as goal

abbrev pub invariant-loop-i : goal.invariant-loop-i
invariant-loop-i g l = (s : IsStoring (g.S.Steps.now l.fn.steps) l.fn.own.call l.fn.row l.fn.hand) →
    g.S.Steps.now l.steps ≡ store_family (g.S.Steps.now l.fn.steps) l.fn.own.call s.attempt s.found (1 + 7 * l.i)

abbrev pub invariant-loop-j : goal.invariant-loop-j
invariant-loop-j g l = (s : IsStoring (g.S.Steps.now l.fn.steps) l.fn.own.call l.fn.row l.fn.hand) →
    g.S.Steps.now l.steps ≡ store_family (g.S.Steps.now l.fn.steps) l.fn.own.call s.attempt s.found
    (1 + 7 * length l.fn.hand.items.items + 2 * l.j)
