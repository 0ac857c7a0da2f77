use Rattle.report_check.proofs.VerdictLemmas.{deserves_so, yes_so}
use Rattle.report_check.proofs.verdicts.check.Goals as goal

pub returns-in-Report-clause-verdict : goal.returns-in-Report-clause-verdict
returns-in-Report-clause-verdict c =
    deserves_so c.args.text.now c.in-Report.kept c.judge.result (rw c.in-Report.is at c.in_ok-kept.ensures)
    c.judge.ensures

pub returns-in-Report-clause-yes : goal.returns-in-Report-clause-yes
returns-in-Report-clause-yes c =
    yes_so c.args.text.now c.judge.result c.one_verdict.ensures.one
    (deserves_so c.args.text.now c.in-Report.kept c.judge.result (rw c.in-Report.is at c.in_ok-kept.ensures)
    c.judge.ensures)
