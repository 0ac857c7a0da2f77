-- Over, and then the share is taken off.
use Rattle.std.proofs.Common.{refl}
use Rattle.exchange_calls.proofs.AnnounceLemmas.{lower_asked, lowered, over_asked}
use Rattle.exchange_calls.proofs.announcing.end.Goals as goal

pub store-requires : goal.store-requires
store-requires g c = record {
  asked = over_asked (g.S.Steps.now c.args.steps.now) c.args.own.now.call c.requires.over c.args.desk.now
      c.requires.desk _ _ c.args.own.now.number c.announced-at.ensures c.requires.number refl;
}

pub lower-others-requires : goal.lower-others-requires
lower-others-requires g c = record {
  asked = lower_asked (g.S.Steps.now c.args.steps.now) c.args.own.now.call c.requires.over
      (g.S.Steps.now c.store.new.self) c.store.ensures.goes _ c.pending-counter.ensures;
}

pub returns : goal.returns
returns g c o =
    lowered (g.S.Steps.now c.args.steps.now) c.args.own.now.call o (g.S.Steps.now c.store.new.self)
    c.store.ensures.goes (g.S.Steps.now c.lower-others.new.self) c.lower-others.result c.lower-others.ensures.goes
