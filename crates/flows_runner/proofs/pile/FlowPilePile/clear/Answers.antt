-- All packets are given up.
use Rattle.std.proofs.Common.{◌≡◌, ◌≤◌, ◌∙◌, ap, length, refl, sym, arith}
use Rattle.std.proofs.lemmas.List.{take_all, with_items_is}
use Rattle.flows_runner.proofs.ShareLemmas.{holds_none, items_in}
use Rattle.flows_runner.proofs.pile.FlowPilePile.clear.Goals as goal

pub returns-clause-none : goal.returns-clause-none
returns-clause-none c =
    let long : length c.loop-share.share-items ≡ c.args.self.now.shares.len =
    omega (arith, c.loop-share.auto.share-items, c.deref_mut-share-items.ensures.len) in
    let all : length c.loop-share.share-items ≤ c.loop-share.share-index =
    omega (arith, c.loop-share.auto.share-items, c.loop-share-test.false) in
    let last : c.args.self.now.shares.len ≡ c.loop-share.share-index =
    omega (arith, long, c.loop-share.auto, all) in
    holds_none _ c.args._before c.loop-share.share-index refl
    (ap items_in (with_items_is c.args.self.now.shares c.loop-share.share-items long)
    ∙ ap items_in (sym (take_all c.loop-share.share-index c.loop-share.share-items all)) ∙ c.loop-share.invariant)
    last
