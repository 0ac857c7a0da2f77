-- One extension head more, or none.
use Rattle.std.proofs.Common.{◌∷◌, arith}
use Rattle.std.proofs.lemmas.Bool.{false≢true}
use Rattle.packet_heads.proofs.ChainLemmas.{chain_less, chain_none}
use Rattle.packet_heads.proofs.ipv6.+behind_extensions.Goals as goal

pub returns-in-Some-clause-chain : goal.returns-in-Some-clause-chain
returns-in-Some-clause-chain t c =
    let rest = c.behind_extensions.ensures.chain in
    (c.in-Some.size ∷ rest.0, omega (arith, rest.1, c.if-most-eq0.false), (c.in-Some.ensures.found, rest.2))

pub returns-in-Some-clause-only : goal.returns-in-Some-clause-only
returns-in-Some-clause-only t c = λ sizes end last few known chain.
    let less = chain_less c.args.packet.now sizes c.args.place c.args.number end last c.in-Some.size known
    c.in-Some.ensures.found chain in
    c.behind_extensions.ensures.only less.rest end last (omega (arith, few, less.fewer)) known less.chain

pub returns-in-None-clause-only : goal.returns-in-None-clause-only
returns-in-None-clause-only t c = λ sizes end last few known chain.
    chain_none c.args.packet.now sizes c.args.place c.args.number end last
    (λ size is. false≢true (c.in-None.ensures.none size is)) chain
