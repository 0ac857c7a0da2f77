use Rattle.report_told.proofs.VerdictLemmas.{deserves_one}
use Rattle.report_lines.proofs.Reports.{tells_once}
use Rattle.report_lines.proofs.laws.one_verdict.Goals as goal

pub returns-clause-one_report : goal.returns-clause-one_report
returns-clause-one_report c = tells_once

pub returns-clause-one : goal.returns-clause-one
returns-clause-one c = deserves_one tells_once
