use Rattle.std.proofs.Common.{◌≡◌, ℕ, Some, None, subst, rules}
use Rattle.report_told.specs.Told.{pending}
use Rattle.report_lines.specs.Lines.{pending_at}
use Rattle.report_reading.proofs.HoldLemmas.{of_false, of_true}
use Rattle.report_reading.proofs.StepLemmas.{bad_pending_at, pending_spelled_at}
use Rattle.report_reading.proofs.entries.Entries.pending_step.Goals as goal

pub returns-in_default : goal.returns-in_default
returns-in_default c = λ head entries more holds same byte.
    bad_pending_at head entries c.args.bytes.now more holds.in_range byte None
    (subst (λ (n : ℕ). pending_at n c.args.bytes.now ≡ None) same c.in_default.ensures) tt

pub returns-then-good : goal.returns-then-good
returns-then-good c = λ head entries more holds same byte.
    (let read : pending_at head.seats c.args.bytes.now ≡ Some (c.in-Some.line, c.in-Some.rest.now) =
    subst (λ (n : ℕ). pending_at n c.args.bytes.now ≡ Some (c.in-Some.line, c.in-Some.rest.now)) same
    c.in-Some.ensures in (
      pending c.in-Some.line,
      pending_spelled_at head c.args.bytes.now c.in-Some.line c.in-Some.rest.now holds.in_range read,
      of_true c.in_ok-good.good _ _ (search rules)
          (c.in_ok-good.ensures head entries c.args.bytes.now c.in-Some.rest.now holds read),
    ))

pub returns-else-good : goal.returns-else-good
returns-else-good c = λ head entries more holds same byte.
    (let read : pending_at head.seats c.args.bytes.now ≡ Some (c.in-Some.line, c.in-Some.rest.now) =
    subst (λ (n : ℕ). pending_at n c.args.bytes.now ≡ Some (c.in-Some.line, c.in-Some.rest.now)) same
    c.in-Some.ensures in
    bad_pending_at head entries c.args.bytes.now more holds.in_range byte (Some (c.in-Some.line, c.in-Some.rest.now))
    read
    (of_false c.in_ok-good.good _ _ (search rules)
    (c.in_ok-good.ensures head entries c.args.bytes.now c.in-Some.rest.now holds read)))
