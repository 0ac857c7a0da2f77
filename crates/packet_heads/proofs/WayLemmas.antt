-- The numbers of a framing tell which it is.
use Rattle.std.proofs.Common.{◌≡◌, ℕ, List, [], ◌∷◌, Option, Some, None, ap, refl, arith}
use Rattle.packet_heads.specs.declared.framing.Framing.{Framing}
use Rattle.packet_heads.specs.declared.framing.Link.{Link}
use Rattle.packet_heads.specs.declared.framing.Link.TheVariants as link
use Rattle.packet_heads.specs.Links.{number_in, tags_way, way_of}

-- link types with one number are one
pub same_link : (one other : Link) → number_in one ≡ number_in other → one ≡ other
same_link link.Null link.Null same = refl
same_link link.Null link.Ethernet same = absurd (omega (arith, same))
same_link link.Null link.Ppp same = absurd (omega (arith, same))
same_link link.Null link.Raw12 same = absurd (omega (arith, same))
same_link link.Null link.Raw14 same = absurd (omega (arith, same))
same_link link.Null link.Raw same = absurd (omega (arith, same))
same_link link.Null link.Loop same = absurd (omega (arith, same))
same_link link.Null link.LinuxSll same = absurd (omega (arith, same))
same_link link.Null link.Ipv4 same = absurd (omega (arith, same))
same_link link.Null link.Ipv6 same = absurd (omega (arith, same))
same_link link.Null link.LinuxSll2 same = absurd (omega (arith, same))
same_link link.Ethernet link.Null same = absurd (omega (arith, same))
same_link link.Ethernet link.Ethernet same = refl
same_link link.Ethernet link.Ppp same = absurd (omega (arith, same))
same_link link.Ethernet link.Raw12 same = absurd (omega (arith, same))
same_link link.Ethernet link.Raw14 same = absurd (omega (arith, same))
same_link link.Ethernet link.Raw same = absurd (omega (arith, same))
same_link link.Ethernet link.Loop same = absurd (omega (arith, same))
same_link link.Ethernet link.LinuxSll same = absurd (omega (arith, same))
same_link link.Ethernet link.Ipv4 same = absurd (omega (arith, same))
same_link link.Ethernet link.Ipv6 same = absurd (omega (arith, same))
same_link link.Ethernet link.LinuxSll2 same = absurd (omega (arith, same))
same_link link.Ppp link.Null same = absurd (omega (arith, same))
same_link link.Ppp link.Ethernet same = absurd (omega (arith, same))
same_link link.Ppp link.Ppp same = refl
same_link link.Ppp link.Raw12 same = absurd (omega (arith, same))
same_link link.Ppp link.Raw14 same = absurd (omega (arith, same))
same_link link.Ppp link.Raw same = absurd (omega (arith, same))
same_link link.Ppp link.Loop same = absurd (omega (arith, same))
same_link link.Ppp link.LinuxSll same = absurd (omega (arith, same))
same_link link.Ppp link.Ipv4 same = absurd (omega (arith, same))
same_link link.Ppp link.Ipv6 same = absurd (omega (arith, same))
same_link link.Ppp link.LinuxSll2 same = absurd (omega (arith, same))
same_link link.Raw12 link.Null same = absurd (omega (arith, same))
same_link link.Raw12 link.Ethernet same = absurd (omega (arith, same))
same_link link.Raw12 link.Ppp same = absurd (omega (arith, same))
same_link link.Raw12 link.Raw12 same = refl
same_link link.Raw12 link.Raw14 same = absurd (omega (arith, same))
same_link link.Raw12 link.Raw same = absurd (omega (arith, same))
same_link link.Raw12 link.Loop same = absurd (omega (arith, same))
same_link link.Raw12 link.LinuxSll same = absurd (omega (arith, same))
same_link link.Raw12 link.Ipv4 same = absurd (omega (arith, same))
same_link link.Raw12 link.Ipv6 same = absurd (omega (arith, same))
same_link link.Raw12 link.LinuxSll2 same = absurd (omega (arith, same))
same_link link.Raw14 link.Null same = absurd (omega (arith, same))
same_link link.Raw14 link.Ethernet same = absurd (omega (arith, same))
same_link link.Raw14 link.Ppp same = absurd (omega (arith, same))
same_link link.Raw14 link.Raw12 same = absurd (omega (arith, same))
same_link link.Raw14 link.Raw14 same = refl
same_link link.Raw14 link.Raw same = absurd (omega (arith, same))
same_link link.Raw14 link.Loop same = absurd (omega (arith, same))
same_link link.Raw14 link.LinuxSll same = absurd (omega (arith, same))
same_link link.Raw14 link.Ipv4 same = absurd (omega (arith, same))
same_link link.Raw14 link.Ipv6 same = absurd (omega (arith, same))
same_link link.Raw14 link.LinuxSll2 same = absurd (omega (arith, same))
same_link link.Raw link.Null same = absurd (omega (arith, same))
same_link link.Raw link.Ethernet same = absurd (omega (arith, same))
same_link link.Raw link.Ppp same = absurd (omega (arith, same))
same_link link.Raw link.Raw12 same = absurd (omega (arith, same))
same_link link.Raw link.Raw14 same = absurd (omega (arith, same))
same_link link.Raw link.Raw same = refl
same_link link.Raw link.Loop same = absurd (omega (arith, same))
same_link link.Raw link.LinuxSll same = absurd (omega (arith, same))
same_link link.Raw link.Ipv4 same = absurd (omega (arith, same))
same_link link.Raw link.Ipv6 same = absurd (omega (arith, same))
same_link link.Raw link.LinuxSll2 same = absurd (omega (arith, same))
same_link link.Loop link.Null same = absurd (omega (arith, same))
same_link link.Loop link.Ethernet same = absurd (omega (arith, same))
same_link link.Loop link.Ppp same = absurd (omega (arith, same))
same_link link.Loop link.Raw12 same = absurd (omega (arith, same))
same_link link.Loop link.Raw14 same = absurd (omega (arith, same))
same_link link.Loop link.Raw same = absurd (omega (arith, same))
same_link link.Loop link.Loop same = refl
same_link link.Loop link.LinuxSll same = absurd (omega (arith, same))
same_link link.Loop link.Ipv4 same = absurd (omega (arith, same))
same_link link.Loop link.Ipv6 same = absurd (omega (arith, same))
same_link link.Loop link.LinuxSll2 same = absurd (omega (arith, same))
same_link link.LinuxSll link.Null same = absurd (omega (arith, same))
same_link link.LinuxSll link.Ethernet same = absurd (omega (arith, same))
same_link link.LinuxSll link.Ppp same = absurd (omega (arith, same))
same_link link.LinuxSll link.Raw12 same = absurd (omega (arith, same))
same_link link.LinuxSll link.Raw14 same = absurd (omega (arith, same))
same_link link.LinuxSll link.Raw same = absurd (omega (arith, same))
same_link link.LinuxSll link.Loop same = absurd (omega (arith, same))
same_link link.LinuxSll link.LinuxSll same = refl
same_link link.LinuxSll link.Ipv4 same = absurd (omega (arith, same))
same_link link.LinuxSll link.Ipv6 same = absurd (omega (arith, same))
same_link link.LinuxSll link.LinuxSll2 same = absurd (omega (arith, same))
same_link link.Ipv4 link.Null same = absurd (omega (arith, same))
same_link link.Ipv4 link.Ethernet same = absurd (omega (arith, same))
same_link link.Ipv4 link.Ppp same = absurd (omega (arith, same))
same_link link.Ipv4 link.Raw12 same = absurd (omega (arith, same))
same_link link.Ipv4 link.Raw14 same = absurd (omega (arith, same))
same_link link.Ipv4 link.Raw same = absurd (omega (arith, same))
same_link link.Ipv4 link.Loop same = absurd (omega (arith, same))
same_link link.Ipv4 link.LinuxSll same = absurd (omega (arith, same))
same_link link.Ipv4 link.Ipv4 same = refl
same_link link.Ipv4 link.Ipv6 same = absurd (omega (arith, same))
same_link link.Ipv4 link.LinuxSll2 same = absurd (omega (arith, same))
same_link link.Ipv6 link.Null same = absurd (omega (arith, same))
same_link link.Ipv6 link.Ethernet same = absurd (omega (arith, same))
same_link link.Ipv6 link.Ppp same = absurd (omega (arith, same))
same_link link.Ipv6 link.Raw12 same = absurd (omega (arith, same))
same_link link.Ipv6 link.Raw14 same = absurd (omega (arith, same))
same_link link.Ipv6 link.Raw same = absurd (omega (arith, same))
same_link link.Ipv6 link.Loop same = absurd (omega (arith, same))
same_link link.Ipv6 link.LinuxSll same = absurd (omega (arith, same))
same_link link.Ipv6 link.Ipv4 same = absurd (omega (arith, same))
same_link link.Ipv6 link.Ipv6 same = refl
same_link link.Ipv6 link.LinuxSll2 same = absurd (omega (arith, same))
same_link link.LinuxSll2 link.Null same = absurd (omega (arith, same))
same_link link.LinuxSll2 link.Ethernet same = absurd (omega (arith, same))
same_link link.LinuxSll2 link.Ppp same = absurd (omega (arith, same))
same_link link.LinuxSll2 link.Raw12 same = absurd (omega (arith, same))
same_link link.LinuxSll2 link.Raw14 same = absurd (omega (arith, same))
same_link link.LinuxSll2 link.Raw same = absurd (omega (arith, same))
same_link link.LinuxSll2 link.Loop same = absurd (omega (arith, same))
same_link link.LinuxSll2 link.LinuxSll same = absurd (omega (arith, same))
same_link link.LinuxSll2 link.Ipv4 same = absurd (omega (arith, same))
same_link link.LinuxSll2 link.Ipv6 same = absurd (omega (arith, same))
same_link link.LinuxSll2 link.LinuxSll2 same = refl

same_tags : (one other : Option ℕ) → tags_way one ≡ tags_way other → one ≡ other
same_tags None None same = refl
same_tags None (Some most) same = absurd (cc)
same_tags (Some most) None same = absurd (cc)
same_tags (Some most) (Some more) same = cc

head_or : List ℕ → ℕ
head_or [] = 0
head_or (x ∷ xs) = x

tail_of : List ℕ → List ℕ
tail_of [] = []
tail_of (x ∷ xs) = xs

pub same_way : (one other : Framing) → way_of one ≡ way_of other → one ≡ other
unfolding head_or tail_of
same_way one other same =
    let links : number_in one.link ≡ number_in other.link = ap head_or same in
    let counts : one.extensions ≡ other.extensions = ap (λ (w : List ℕ). head_or (tail_of w)) same in
    let tags : tags_way one.tags ≡ tags_way other.tags = ap (λ (w : List ℕ). tail_of (tail_of w)) same in
    λ i. record {
      link = same_link one.link other.link links i;
      tags = same_tags one.tags other.tags tags i;
      extensions = counts i;
    }
