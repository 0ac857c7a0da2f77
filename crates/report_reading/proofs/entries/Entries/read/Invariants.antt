use Rattle.std.proofs.Common.{ℕ, ◌≡◌, ◌≤◌, List, [], length}
use Rattle.report_text.specs.declared.parts.Head.{Head}
use Rattle.report_lines.proofs.Machine.{begun_with, body}
use Rattle.report_reading.specs.Entries.{Holds}
use Rattle.report_reading.specs.Steps.{At}
use Rattle.report_reading.proofs.PlaceLemmas.{HasEntries}
use Rattle.report_reading.proofs.entries.Entries.read.Given as goal

abbrev pub invariant-loop : goal.invariant-loop
invariant-loop l =
    (text : List ℕ) (head : Head) → At text (body (begun_with head)) l.fn.bytes 1 → Holds l.fn.self head [] →
    l.seats ≡ head.seats → length text ≤ 4294967295 → HasEntries text l.self head l.rest l.lines l.counter
