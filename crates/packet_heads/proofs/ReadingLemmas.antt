-- The bytes at the named places decide the heads.
use Rattle.std.proofs.Common.{◌≡◌, ℕ, ◌+◌, ◌-◌, List, Option, sym, ap, ◌∙◌, subst, arith, refl}
use Rattle.std.specs.Prelude.{slice_index}
use Rattle.byteorder.specs.Endian.{big_from}
use Rattle.packet_heads.specs.declared.packet.Heads.{Heads}
use Rattle.packet_heads.specs.declared.packet.Protocol.{Protocol}
use Rattle.packet_heads.specs.declared.packet.Protocol.TheVariants.{Tcp, Udp}
use Rattle.packet_heads.specs.Transport.{HasProtocol, count_behind}
use Rattle.packet_heads.specs.Ipv4.{HasIpv4}
use Rattle.packet_heads.specs.Ipv6.{HasIpv6}
use Rattle.packet_heads.specs.Heads.{HasNetwork, HasOneReading}
use Rattle.packet_heads.specs.declared.framing.Network.{Network}
use Rattle.packet_heads.specs.declared.framing.Network.TheVariants.{Ipv4, Ipv6}
use Rattle.packet_heads.proofs.CarriesLemmas.{HasNetwork-from_heads}
use Rattle.packet_heads.proofs.ChainLemmas.{EndAlike, IsKnown, protocol_known, same_chain}

-- a place has one protocol
one_protocol : (packet : List ℕ) (head number : ℕ) (count : Option ℕ) (one other : Protocol)
    → HasProtocol packet head number count one → HasProtocol packet head number count other → one ≡ other
one_protocol packet head number count (Tcp flags payload) (Tcp flags' payload') a b =
    let same_flags : flags ≡ flags' = sym a.fields.0 ∙ b.fields.0 in
    let same_payload : payload ≡ payload' = a.fields.1 ∙ sym b.fields.1 in
    cc
one_protocol packet head number count (Tcp flags payload) (Udp payload') a b =
    absurd (omega (arith, a.is_number, b.is_number))
one_protocol packet head number count (Udp payload) (Tcp flags payload') a b =
    absurd (omega (arith, a.is_number, b.is_number))
one_protocol packet head number count (Udp payload) (Udp payload') a b = ap Udp (a.fields ∙ sym b.fields)

-- heads with equal parts are equal
same_heads : (one other : Heads) → one.version ≡ other.version
    → one.source.address ≡ other.source.address → one.source.port ≡ other.source.port
    → one.target.address ≡ other.target.address → one.target.port ≡ other.target.port
    → one.protocol ≡ other.protocol → one ≡ other
same_heads one other v a p a' p' protocol =
    λ i. record {
      version = v i;
      source = record { address = a i; port = p i };
      target = record { address = a' i; port = p' i };
      protocol = protocol i;
    }

-- an IPv4 packet has one reading
one_ipv4 : (packet : List ℕ) (one other : Heads) → HasIpv4 packet one → HasIpv4 packet other → one ≡ other
one_ipv4 packet one other a b =
    let head : a.head ≡ b.head = a.head_length.head_length ∙ sym b.head_length.head_length in
    let protocol : HasProtocol packet b.head (slice_index packet 9) (count_behind (big_from 2 2 packet) b.head)
    one.protocol =
    subst (λ (h : ℕ). HasProtocol packet h (slice_index packet 9) (count_behind (big_from 2 2 packet) h) one.protocol)
    head a.protocol in
    same_heads one other (a.version ∙ sym b.version)
    (sym a.source_at_12 ∙ b.source_at_12)
    (sym a.ports.source_at_0 ∙ ap (λ (h : ℕ). big_from h 2 packet) head ∙ b.ports.source_at_0)
    (sym a.target_at_16 ∙ b.target_at_16)
    (sym a.ports.target_at_2 ∙ ap (λ (h : ℕ). big_from (h + 2) 2 packet) head ∙ b.ports.target_at_2)
    (one_protocol packet b.head _ _ one.protocol other.protocol protocol b.protocol)

-- so has an IPv6 packet, whatever extension heads stand in it
one_ipv6 : (most : ℕ) (packet : List ℕ) (one other : Heads) → HasIpv6 most packet one → HasIpv6 most packet other →
    one ≡ other
one_ipv6 most packet one other a b =
    let known : IsKnown a.last = subst IsKnown (sym a.protocol.is_number) (protocol_known one.protocol) in
    let known' : IsKnown b.last = subst IsKnown (sym b.protocol.is_number) (protocol_known other.protocol) in
    let same : EndAlike a.end a.last b.end b.last =
    same_chain packet a.sizes b.sizes 40 (slice_index packet 6) a.end a.last b.end b.last known known' a.chain
    b.chain in
    let field : ℕ = big_from 4 2 packet in
    let protocol : HasProtocol packet b.end b.last (count_behind field (b.end - 40)) one.protocol =
    subst (λ (n : ℕ). HasProtocol packet b.end n (count_behind field (b.end - 40)) one.protocol) same.lasts
    (subst (λ (e : ℕ). HasProtocol packet e a.last (count_behind field (e - 40)) one.protocol) same.ends a.protocol) in
    same_heads one other (a.version ∙ sym b.version)
    (sym a.source_at_8 ∙ b.source_at_8)
    (sym a.ports.source_at_0 ∙ ap (λ (e : ℕ). big_from e 2 packet) same.ends ∙ b.ports.source_at_0)
    (sym a.target_at_24 ∙ b.target_at_24)
    (sym a.ports.target_at_2 ∙ ap (λ (e : ℕ). big_from (e + 2) 2 packet) same.ends ∙ b.ports.target_at_2)
    (one_protocol packet b.end _ _ one.protocol other.protocol protocol b.protocol)

-- so have both
one_network : (extensions : ℕ) (network : Network) (packet : List ℕ) (one other : Heads) →
    HasNetwork extensions network packet one → HasNetwork extensions network packet other → one ≡ other
one_network extensions Ipv4 packet one other a b = one_ipv4 packet one other a b
one_network extensions Ipv6 packet one other a b = one_ipv6 extensions packet one other a b

-- so have captured bytes
pub one_reading : HasOneReading
one_reading framing bytes one other h h' =
    one_network framing.extensions h.network h.packet one other h.has
    (HasNetwork-from_heads framing bytes h.packet h.network other h.carried h')
