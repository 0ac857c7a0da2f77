-- One packet more is held.
use Rattle.std.proofs.Common.{◌≤◌, ◌+◌, [], ◌∷◌, ◌++◌, ◌∙◌, Some, None, length, refl, subst, sym, ap, arith, append-nil, vec_len}
use Rattle.flows_runner.specs.declared.pile.FlowPile.{FlowPile}
use Rattle.flows_runner.specs.Piles.{HoldsShares, shares_of}
use Rattle.flows_runner.proofs.ShareLemmas.{holds_more}
use Rattle.flows_runner.proofs.pile.FlowPilePile.take.Goals as goal
use Rattle.flows_runner.proofs.pile.FlowPilePile.take.Goals.{in-Some+in_ok-deal, in_default}

pub returns-clause-holds : goal.returns-clause-holds
returns-clause-holds c = λ before packets holds at.
    let few : length packets + 1 ≤ 65536 = omega (arith, holds.count, c.requires.some.2.count, c.requires.some.4) in
    let Held : FlowPile → Type 0 =
    (λ pile. HoldsShares (record {
      calling = pile.calling;
      classes = pile.classes;
      packets = pile.packets + 1;
      shares = pile.shares;
    }) before
    (packets ++ c.args.packet.now ∷ [])) in
    elim c.match-call_in.branch [
      | in-Some+in_ok-deal w ↦ subst Held (sym w.self-is)
          (holds_more c.args.self.now _ before packets c.args.packet.now c.args.number (Some w.in-Some.call) holds at
          few w.in-Some.ensures.made w.in-Some.ensures.fits.0 refl refl refl w.in_ok-deal.ensures.dealt)
      | in_default w ↦ subst Held (sym w.self-is)
          (holds_more c.args.self.now _ before packets c.args.packet.now c.args.number None holds at few
          w.in_default.ensures.made tt refl refl refl
          (λ calls are. are ∙ ap (shares_of c.args.self.now.classes.rules (vec_len c.args.self.now.shares)) (sym
          (append-nil calls))))
    ]
