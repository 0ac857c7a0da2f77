-- One store, whoever gives.
use Rattle.exchange_calls.specs.Going.{Going}
use Rattle.exchange_calls.proofs.HoldLemmas.{back_asked, given_back}
use Rattle.exchange_calls.proofs.holding.give_back.Goals as goal

pub store-requires : goal.store-requires
store-requires g c =
    let f : Going = g.S.Steps.now c.args.steps.now in
    let v = c.requires.giving in
    record { asked = back_asked f v.giver v.stand c.args.desk.now c.requires.desk _ c.hold-own.ensures }

pub returns : goal.returns
returns g c giver stand =
    given_back (g.S.Steps.now c.args.steps.now) giver stand (g.S.Steps.now c.store.new.self) c.store.ensures.goes
