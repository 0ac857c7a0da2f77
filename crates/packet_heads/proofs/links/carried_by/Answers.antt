-- The link type chooses its row.
use Rattle.std.proofs.Common.{subst}
use Rattle.packet_heads.specs.Links.{CarriesOn}
use Rattle.packet_heads.specs.declared.framing.Link.{Link}
use Rattle.packet_heads.proofs.links.carried_by.Goals as goal

pub returns-in-Null-clause-none : goal.returns-in-Null-clause-none
returns-in-Null-clause-none c = λ network packet is.
    c.null.ensures.none network packet
    (subst (λ (l : Link). CarriesOn l c.args.framing.now.tags c.args.bytes.now network packet) c.in-Null.is is)

pub returns-in-Loop-clause-none : goal.returns-in-Loop-clause-none
returns-in-Loop-clause-none c = λ network packet is.
    c.loopback.ensures.none network packet
    (subst (λ (l : Link). CarriesOn l c.args.framing.now.tags c.args.bytes.now network packet) c.in-Loop.is is)

pub returns-in-Ppp-clause-none : goal.returns-in-Ppp-clause-none
returns-in-Ppp-clause-none c = λ network packet is.
    c.ppp.ensures.none network packet
    (subst (λ (l : Link). CarriesOn l c.args.framing.now.tags c.args.bytes.now network packet) c.in-Ppp.is is)
