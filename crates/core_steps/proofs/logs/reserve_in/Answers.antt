-- Room alone is added.
use Rattle.core_steps.proofs.LogLemmas.{items_same}
use Rattle.core_steps.proofs.logs.reserve_in.Goals as goal

pub returns-clause-items : goal.returns-clause-items
returns-clause-items c =
    items_same c.args.logs.now.items c.args.seat c.index_mut.result.now c.reserve.new.self c.requires
    c.index_mut.ensures.value c.reserve.ensures.items
