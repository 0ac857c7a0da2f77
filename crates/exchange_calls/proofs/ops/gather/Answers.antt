-- The seat is alone, or looks at all.
use Rattle.std.proofs.Common.{◌∙◌, length, refl, sym, ap, arith}
use Rattle.exchange_model.specs.Steps.{bucket_of_call}
use Rattle.exchange_calls.specs.Going.{Going}
use Rattle.exchange_calls.proofs.GoesLemmas.{making_posted}
use Rattle.exchange_calls.proofs.OwnLemmas.{found_alone_here, goes_through, pending_asked, pending_goes}
use Rattle.exchange_calls.proofs.PlaceLemmas.{of_same}
use Rattle.exchange_calls.proofs.ops.gather.Goals as goal

pub load-pending-requires : goal.load-pending-requires
load-pending-requires g c = record {
  asked = pending_asked (g.S.Steps.now c.args.steps.now) c.args.own.now.call c.args.announced c.args.hand.now
      c.requires.pending c.args.desk.now c.requires.desk _ c.pending-place.ensures;
}

pub apply_own-requires-clause-few : goal.apply_own-requires-clause-few
apply_own-requires-clause-few g c = omega (arith, ap length c.clear.ensures.items)

pub returns-then-pending-share : goal.returns-then-pending-share
returns-then-pending-share g c p =
    found_alone_here (g.S.Steps.now c.args.steps.now) c.args.own.now.call c.args.announced c.args.hand.now p
    c.args.desk.now c.requires.desk _ refl refl c.clear.ensures.items (g.S.Steps.now c.load-pending.new.self)
    c.load-pending.result c.own_share-share.result c.load-pending.ensures.goes c.own_share-share.ensures
    c.if-pending-share.true c.requires.seat
    c.args.own.now.number c.requires.number c.requires.update c.apply_own.new.hand c.apply_own.result
    c.apply_own.ensures

pub find_all-requires-clause-finding : goal.find_all-requires-clause-finding
find_all-requires-clause-finding g c =
    goes_through (g.S.Steps.now c.args.steps.now) c.args.own.now.call c.args.announced c.args.hand.now
    c.requires.pending c.args.desk.now c.requires.desk _ refl refl c.clear.ensures.items
    (g.S.Steps.now c.load-pending.new.self) c.load-pending.result c.own_share-share.result c.load-pending.ensures.goes
    c.own_share-share.ensures
    c.if-pending-share.false

pub find_all-requires-clause-desk : goal.find_all-requires-clause-desk
find_all-requires-clause-desk g c =
    let now : Going = g.S.Steps.now c.args.steps.now in
    let next : Going = g.S.Steps.now c.load-pending.new.self in
    let e = pending_goes now c.args.own.now.call c.args.announced c.args.hand.now c.requires.pending c.args.desk.now
    c.requires.desk next c.load-pending.result c.load-pending.ensures.goes in
    of_same now next c.args.desk.now (ap (λ (h : Going). h.plan) e) (ap (λ (h : Going). h.seat) e) c.requires.desk

pub find_all-requires-clause-bucket : goal.find_all-requires-clause-bucket
find_all-requires-clause-bucket g c =
    let e = pending_goes (g.S.Steps.now c.args.steps.now) c.args.own.now.call c.args.announced c.args.hand.now
    c.requires.pending c.args.desk.now c.requires.desk (g.S.Steps.now c.load-pending.new.self) c.load-pending.result
    c.load-pending.ensures.goes in
    c.requires.bucket ∙ sym (ap (λ (h : Going). bucket_of_call h.plan c.args.own.now.call) e)

pub find_all-requires-clause-number : goal.find_all-requires-clause-number
find_all-requires-clause-number g c =
    let e = pending_goes (g.S.Steps.now c.args.steps.now) c.args.own.now.call c.args.announced c.args.hand.now
    c.requires.pending c.args.desk.now c.requires.desk (g.S.Steps.now c.load-pending.new.self) c.load-pending.result
    c.load-pending.ensures.goes in
    c.requires.number
    ∙ sym (ap (λ (h : Going). h.now.posted) e ∙ making_posted (g.S.Steps.now c.args.steps.now) c.args.own.now.call _)

pub returns : goal.returns
returns g c p =
    c.find_all.ensures
    (goes_through (g.S.Steps.now c.args.steps.now) c.args.own.now.call c.args.announced c.args.hand.now
    p c.args.desk.now c.requires.desk _ refl refl c.clear.ensures.items
    (g.S.Steps.now c.load-pending.new.self) c.load-pending.result c.own_share-share.result c.load-pending.ensures.goes
    c.own_share-share.ensures
    c.if-pending-share.false)
