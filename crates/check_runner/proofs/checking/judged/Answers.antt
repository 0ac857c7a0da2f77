use Rattle.std.proofs.Common.{ℕ, List, subst}
use Rattle.report_told.specs.Verdicts.{Deserves}
use Rattle.check_runner.specs.declared.reading.Reading.{Reading}
use Rattle.check_runner.specs.Checked.{IsRead}
use Rattle.check_runner.proofs.CheckLemmas.{found_judged, found_longer}
use Rattle.check_runner.proofs.checking.judged.Goals as goal
use Rattle.check_runner.proofs.checking.judged.Goals.{in-Whole+in_ok-check-in-Whole, in-TooLong}

pub returns-clause-found : goal.returns-clause-found
returns-clause-found g c =
    let first = g.S.Source.left c.args.source.now in
    let left = g.S.Source.left c.read_text.new.source in (
      elim c.match-branch-2.branch [
        | in-Whole+in_ok-check-in-Whole w ↦
            let text : List ℕ = w.in-Whole.text.items in
            found_judged first left text w.in_ok-check-in-Whole.field-0 c.match-branch-2.checked w.checked-is
            (subst (λ (r : Reading). IsRead r first left) w.in-Whole.is c.in_ok-text.ensures.read)
            (subst (λ (l : List ℕ). Deserves l w.in_ok-check-in-Whole.field-0) w.deref.ensures.value
            w.in_ok-check-in-Whole.ensures.verdict)
        | in-TooLong w ↦
            found_longer first left c.match-branch-2.checked w.checked-is
            (subst (λ (r : Reading). IsRead r first left) w.in-TooLong.is c.in_ok-text.ensures.read)
      ],
      c.in_ok-line.ensures,
    )
