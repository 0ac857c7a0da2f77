-- A type that names no network is a tag's, or nothing stands behind it.
use Rattle.std.proofs.Common.{ℕ, List, drop, refl, sym, subst, arith}
use Rattle.std.proofs.lemmas.Bool.{false≢true}
use Rattle.packet_heads.specs.Ethernet.{IsBehind}
use Rattle.packet_heads.proofs.TagLemmas.{behind_four, found_more, tagged}
use Rattle.packet_heads.proofs.ethernet.+behind.Goals as goal

pub returns-then-most-eq0-clause-none : goal.returns-then-most-eq0-clause-none
returns-then-most-eq0-clause-none t c = λ types network packet few behind.
    let more = tagged c.args.tags types c.args.ether_type c.args.bytes.now network packet
    (λ is. false≢true (c.in_default.ensures.none network is)) behind in
    absurd (omega (arith, few, more.fewer, c.if-most-eq0.true))

pub returns-then-not-is_tag-clause-none : goal.returns-then-not-is_tag-clause-none
returns-then-not-is_tag-clause-none t c = λ types network packet few behind.
    let more = tagged c.args.tags types c.args.ether_type c.args.bytes.now network packet
    (λ is. false≢true (c.in_default.ensures.none network is)) behind in
    absurd (false≢true (c.if-not-is_tag.ensures.1 more.is_tag))

pub returns-then-bytes-lt4-clause-none : goal.returns-then-bytes-lt4-clause-none
returns-then-bytes-lt4-clause-none t c = λ types network packet few behind.
    let more = tagged c.args.tags types c.args.ether_type c.args.bytes.now network packet
    (λ is. false≢true (c.in_default.ensures.none network is)) behind in
    absurd (omega (arith, more.room, c.if-bytes-lt4.true))

pub returns-clause-found : goal.returns-clause-found
returns-clause-found t c =
    found_more c.args.tags c.args.most _ c.args.ether_type c.u16_at.result c.args.bytes.now _ c.behind.result
    (c.if-not-is_tag.ensures.0 refl) (omega (arith, c.if-bytes-lt4.false)) c.u16_at.ensures
    (behind_four c.args.bytes.now) (omega (arith, c.if-most-eq0.false)) c.behind.ensures.found

pub returns-clause-none : goal.returns-clause-none
returns-clause-none t c = λ types network packet few behind.
    let more = tagged c.args.tags types c.args.ether_type c.args.bytes.now network packet
    (λ is. false≢true (c.in_default.ensures.none network is)) behind in
    c.behind.ensures.none more.rest network packet (omega (arith, few, more.fewer))
    (subst (λ (bs : List ℕ). IsBehind c.args.tags more.rest c.u16_at.result bs network packet)
    (sym (behind_four c.args.bytes.now))
    (subst (λ (n : ℕ). IsBehind c.args.tags more.rest n (drop 4 c.args.bytes.now) network packet)
    (sym c.u16_at.ensures) more.behind))
