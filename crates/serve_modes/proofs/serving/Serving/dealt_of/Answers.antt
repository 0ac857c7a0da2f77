use Rattle.std.proofs.Common.{refl, subst, sym, ◌∙◌}
use Rattle.mode_parts.specs.declared.calling.Calling.{Calling}
use Rattle.mode_parts.proofs.CallingLemmas.{same_calling}
use Rattle.mode_parts.specs.PacketCalls.{MakeCalls}
use Rattle.serve_modes.proofs.JobLemmas.{OnOk-any, dealt_alike}
use Rattle.serve_modes.proofs.serving.Serving.dealt_of.Goals as goal

pub returns-then-deal_alike-clause-dealt : goal.returns-then-deal_alike-clause-dealt
returns-then-deal_alike-clause-dealt c =
    dealt_alike c.args.pile.now.service c.args.self.now.service c.args.pile.now.calls.items c.in-Some.dealt
    (c.if-deal_alike.ensures refl)
    (c.requires.dealt c.in-Some.dealt (sym c.replace-dealt.ensures.value ∙ c.in-Some.is))

pub returns-then-deal_alike-clause-made : goal.returns-then-deal_alike-clause-made
returns-then-deal_alike-clause-made c = λ number packets make.
    subst (λ (f : Calling). MakeCalls f number packets c.args.pile.now.calls.items)
    (same_calling c.args.pile.now.calling c.args.self.now.calling c.requires.way) make

pub returns-clause-made : goal.returns-clause-made
returns-clause-made c =
    OnOk-any c.deal_batch.result
    (λ number packets make.
    subst (λ (f : Calling). MakeCalls f number packets c.args.pile.now.calls.items)
    (same_calling c.args.pile.now.calling c.args.self.now.calling c.requires.way) make)
