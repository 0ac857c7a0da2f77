use Rattle.std.proofs.Common.{ℕ, List, sym, subst}
use Rattle.packet_heads.specs.Links.{IsPppBody}
use Rattle.packet_heads.proofs.links.ppp.Goals as goal

pub returns-clause-none : goal.returns-clause-none
returns-clause-none c = λ network packet is.
    c.ppp_body.ensures.none network packet
    (subst (λ (body : List ℕ). IsPppBody body network packet) (sym c.behind_control.ensures) is)
