use Rattle.std.proofs.Common.{ℕ, ◌≡◌, ◌≤◌, List, [], length}
use Rattle.report_told.specs.Rules.{IsHead}
use Rattle.report_lines.proofs.Machine.{Body, body}
use Rattle.report_reading.specs.Steps.{At, NoEntry}
use Rattle.report_reading.proofs.SessionLemmas.{HasSessions}
use Rattle.report_reading.proofs.sessions.sessions.Given as goal

abbrev pub invariant-loop : goal.invariant-loop
invariant-loop l =
    (text : List ℕ) (b : Body) → IsHead b.head → b.pairs ≡ [] → At text (body b) l.fn.bytes l.before →
    NoEntry b l.fn.bytes → l.fn.pairs.items ≡ [] → length text ≤ 4294967295 →
    HasSessions text b l.pairs.items l.rest l.before l.lines l.counter
