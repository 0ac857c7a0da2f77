use Rattle.std.proofs.Common.{◌-◌, ◌∷◌, []}
use Rattle.report_lines.specs.Fields.{counts_behind}
use Rattle.report_lines.proofs.CountLemmas.{HasCounts}
use Rattle.report_lines.proofs.counts.counts.Given as goal

abbrev pub invariant-loop-seat : goal.invariant-loop-seat
invariant-loop-seat l =
    HasCounts l.seats l.seat l.counts l.rest (counts_behind (l.seats - 1) (l.first ∷ []) l.initial.rest)
