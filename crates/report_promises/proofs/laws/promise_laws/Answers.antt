use Rattle.report_promises.proofs.GoodLemmas.{good_is_certified}
use Rattle.report_promises.proofs.laws.promise_laws.Goals as goal

pub returns : goal.returns
returns c = good_is_certified
