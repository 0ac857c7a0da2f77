use Rattle.report_told.proofs.VerdictLemmas.{deserves_one}
use Rattle.report_told.proofs.laws.verdict_laws.Goals as goal

pub returns : goal.returns
returns c = deserves_one
