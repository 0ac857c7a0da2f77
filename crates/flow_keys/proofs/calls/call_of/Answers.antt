-- The rule chooses whether a flow has sessions.
use Rattle.std.proofs.Common.{◌∙◌, sym}
use Rattle.flow_keys.specs.Flow.{ruled_call}
use Rattle.flow_keys.proofs.calls.call_of.Goals as goal

pub returns-in-Sessions-clause-call : goal.returns-in-Sessions-clause-call
returns-in-Sessions-clause-call c =
    c.session_call.ensures.call
    ∙ (λ i. ruled_call ((sym c.in-Sessions.is) i) c.args.heads.now.protocol (c.key_of-key.ensures.key i) c.args.packet)
