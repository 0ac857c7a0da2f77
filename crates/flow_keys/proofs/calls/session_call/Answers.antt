-- The call of a TCP packet is that of its flags.
use Rattle.std.proofs.Common.{◌∙◌, ap, sym}
use Rattle.packet_heads.specs.declared.packet.Protocol.{Protocol}
use Rattle.flow_keys.specs.Flow.{call_by}
use Rattle.flow_keys.proofs.calls.session_call.Goals as goal

pub returns-in-Tcp-clause-call : goal.returns-in-Tcp-clause-call
returns-in-Tcp-clause-call c =
    c.tcp_call.ensures.call ∙ ap (λ (p : Protocol). call_by p c.args.key c.args.packet) (sym c.in-Tcp.is)
