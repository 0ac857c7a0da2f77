use Rattle.std.proofs.Common.{arith}
use Rattle.report_reading.specs.Steps.{with_entries}
use Rattle.report_reading.proofs.StepLemmas.{no_entry_first, no_entry_nothing, nothing_first, some_first}
use Rattle.report_reading.proofs.entries.Entries.step.Goals as goal

pub returns-in_default : goal.returns-in_default
returns-in_default c = λ head entries holds same few. (
  holds,
  no_entry_nothing (with_entries head entries) c.args.bytes.now
      (nothing_first c.args.bytes.now c.in_default.ensures.value),
)

pub returns-in_default-first : goal.returns-in_default-first
returns-in_default-first c = λ head entries holds same few.
    (let starts = some_first c.args.bytes.now c.in-Some.first.now c.in-Some.ensures.value in (
      holds,
      no_entry_first (with_entries head entries) c.args.bytes.now c.in-Some.first.now starts.0 starts.1
          (λ is. omega (arith, is)) (λ is. omega (arith, is)) (λ is. omega (arith, is)),
    ))
