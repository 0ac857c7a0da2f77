-- One packet more is held.
use Rattle.std.proofs.Common.{◌≤◌, ◌+◌, length, refl, subst, sym, ◌∙◌, arith}
use Rattle.mode_parts.specs.declared.pile.CallPile.{CallPile}
use Rattle.mode_parts.proofs.PileLemmas.{HoldsUndealt, given_up, holds_more, none_dealt, none_there}
use Rattle.mode_parts.proofs.pile.CallPilePile.take.Goals as goal
use Rattle.mode_parts.proofs.pile.CallPilePile.take.Goals.{then-is_some+in-Some-1, then-is_some+in-None-1, else-is_some}

pub returns-clause-holds : goal.returns-clause-holds
returns-clause-holds c = λ before packets holds at.
    let few : length packets + 1 ≤ 65536 = omega (arith, holds.count, c.requires.some.2.count, c.requires.some.4) in
    let Undealt : CallPile → Type 0 = (λ pile. HoldsUndealt pile before packets) in
    let gone : HoldsUndealt _ before packets = given_up c.args.self.now before packets holds in
    let undealt : Undealt c.if-is_some.self =
    elim c.if-is_some.branch [
      | then-is_some+in-Some-1 w ↦ subst Undealt (sym w.self-is) gone
      | then-is_some+in-None-1 w ↦ subst Undealt (sym w.self-is) gone
      | else-is_some w ↦ subst Undealt (sym w.self-is)
          (holds, none_there c.args.self.now.dealt (sym c.is_some.ensures ∙ w.if-is_some.false))
    ] in
    holds_more c.if-is_some.self _ before packets c.args.packet.now c.args.number undealt.0 at few
    c.in_ok-keep_call.ensures.kept c.in_ok-keep_call.ensures.between refl refl (none_dealt _ _ undealt.1)
