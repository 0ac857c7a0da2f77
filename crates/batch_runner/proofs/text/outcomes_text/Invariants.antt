use Rattle.std.proofs.Common.{◌≡◌, ◌++◌, take}
use Rattle.std.specs.Prelude.{flat_map}
use Rattle.report_text.specs.Report.{outcome_line}
use Rattle.batch_runner.specs.Printed.{outcome_on}
use Rattle.batch_runner.proofs.text.outcomes_text.Given as goal

abbrev pub invariant-loop-seat : goal.invariant-loop-seat
invariant-loop-seat l =
    l.out.items ≡ l.fn.out.items ++ flat_map (λ o. outcome_line l.seats o.0 (outcome_on l.before o.1.now))
    (take l.seat-index l.outcomes)
