-- The hold word, and a row where it asks.
use Rattle.std.proofs.Common.{◌∙◌}
use Rattle.lasting_model.specs.Plans.{ample}
use Rattle.lasting_model.specs.Steps.{Seats}
use Rattle.lasting_model.specs.Goes.{by_hold}
use Rattle.lasting_calls.specs.Going.{Going}
use Rattle.lasting_calls.proofs.GiveLemmas.{base_of, hold_asked, hold_seen, not_asked, now_asked, swept_desk}
use Rattle.lasting_calls.proofs.SweepLemmas.{at_seats}
use Rattle.lasting_calls.proofs.sweeping.settle.Goals as goal

pub load-word-requires : goal.load-word-requires
load-word-requires g c =
    let f : Going = g.S.Steps.now c.args.steps.now in
    let a = c.requires.at in
    record {
      asked = hold_asked f a.first a.update a.left c.args.desk.now c.args.seat a.gone
          (a.goes ∙ at_seats a.first a.update a.left c.args.seat a.gone) c.requires.desk _ c.hold-place.ensures;
    }

pub give-requires-clause-asks : goal.give-requires-clause-asks
give-requires-clause-asks g c =
    now_asked (g.S.Steps.now c.args.steps.now) c.args.seat c.requires.at (g.S.Steps.now c.load-word.new.self)
    c.load-word.result c.load-word.ensures.goes c.if-word-eq1.true

pub give-requires-clause-desk : goal.give-requires-clause-desk
give-requires-clause-desk g c =
    let f : Going = g.S.Steps.now c.args.steps.now in
    let a = c.requires.at in
    swept_desk (g.S.Steps.now c.load-word.new.self) a.first a.update a.left
    (by_hold (ample a.first.plan) a.first.seat c.args.seat a.gone c.load-word.result) c.args.desk.now
    (hold_seen f c.args.seat a (g.S.Steps.now c.load-word.new.self) c.load-word.result c.load-word.ensures.goes)
    (base_of f a.first a.update a.left (Seats c.args.seat a.gone) c.args.desk.now
    (a.goes ∙ at_seats a.first a.update a.left c.args.seat a.gone) c.requires.desk)

pub returns-then-word-eq1 : goal.returns-then-word-eq1
returns-then-word-eq1 g c a =
    c.give.ensures
    (now_asked (g.S.Steps.now c.args.steps.now) c.args.seat a (g.S.Steps.now c.load-word.new.self) c.load-word.result
    c.load-word.ensures.goes c.if-word-eq1.true)

pub returns-else-word-eq1 : goal.returns-else-word-eq1
returns-else-word-eq1 g c a =
    not_asked (g.S.Steps.now c.args.steps.now) c.args.seat a (g.S.Steps.now c.load-word.new.self) c.load-word.result
    c.load-word.ensures.goes c.if-word-eq1.false
