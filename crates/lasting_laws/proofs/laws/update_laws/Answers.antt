use Rattle.lasting_laws.proofs.OneOrder.{updates_have_one_order}
use Rattle.lasting_laws.proofs.laws.update_laws.Goals as goal

pub returns : goal.returns
returns c = record { one_order = updates_have_one_order }
