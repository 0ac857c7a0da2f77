use Rattle.report_promises.proofs.FlowLemmas.{amount_of_call, flow_of_call, value_of_call}
use Rattle.report_promises.proofs.laws.call_laws.Goals as goal

pub returns : goal.returns
returns c = record { flows = flow_of_call; values = value_of_call; amounts = amount_of_call }
