-- What captured bytes carry, by their link type: a packet of IPv4 or of IPv6, behind the head of the link.
-- Source: the registry of link types, https://www.tcpdump.org/linktypes.html, each row by its name there; RFC 1661,
-- section 2, and section 6.5 for the shorter field of PPP, RFC 1662, section 3.1, for its two bytes ff 03.
use Rattle.std.specs.Prelude.{◌≡◌, ◌==◌, ◌⊎◌, ℕ, ◌/◌, ◌≤◌, nat_lt, if◌then◌else◌, List, [], ◌∷◌, Option, Some, None, length, drop, slice_index}
use Rattle.byteorder.specs.Endian.{big_from, little_from}
use Rattle.packet_heads.specs.declared.framing.Link.{Link}
use Rattle.packet_heads.specs.declared.framing.Link.TheVariants as link
use Rattle.packet_heads.specs.declared.framing.Network.{Network}
use Rattle.packet_heads.specs.declared.framing.Network.TheVariants.{Ipv4, Ipv6}
use Rattle.packet_heads.specs.declared.framing.Framing.{Framing}
use Rattle.packet_heads.specs.Ethernet.{IsTyped}

-- the number of a link type in a capture; 12 and 14 are written for 101 by some systems
abbrev pub number_in : Link → ℕ
number_in link.Null = 0
number_in link.Ethernet = 1
number_in link.Ppp = 9
number_in link.Raw12 = 12
number_in link.Raw14 = 14
number_in link.Raw = 101
number_in link.Loop = 108
number_in link.LinuxSll = 113
number_in link.Ipv4 = 228
number_in link.Ipv6 = 229
number_in link.LinuxSll2 = 276

-- a packet without a head before it, whose first half byte is its version
abbrev pub version_of : Network → ℕ
version_of Ipv4 = 4
version_of Ipv6 = 6

pub record IsRaw (bytes : List ℕ) (network : Network) (packet : List ℕ) : Type 0 where
  pub version : slice_index bytes 0 / 16 ≡ version_of network
  pub packet_is : packet ≡ bytes

-- the address families: 2 is IPv4's; 24 (NetBSD, OpenBSD), 28 (FreeBSD) and 30 (macOS) are IPv6's
abbrev pub IsFamily : Network → ℕ → Type 0
IsFamily Ipv4 family = family ≡ 2
IsFamily Ipv6 family = (family ≡ 24) ⊎ (family ≡ 28) ⊎ (family ≡ 30)

-- a packet behind a family of four bytes, the highest byte first
pub record IsLoop (bytes : List ℕ) (network : Network) (packet : List ℕ) : Type 0 where
  pub whole : 4 ≤ length bytes
  pub family : IsFamily network (big_from 0 4 bytes)
  pub packet_at_4 : packet ≡ drop 4 bytes

-- the same in the order of the machine that wrote: no family read backwards is another
pub record IsNull (bytes : List ℕ) (network : Network) (packet : List ℕ) : Type 0 where
  pub whole : 4 ≤ length bytes
  pub family : IsFamily network (big_from 0 4 bytes) ⊎ IsFamily network (little_from 0 4 bytes)
  pub packet_at_4 : packet ≡ drop 4 bytes

-- the protocol's number in PPP
abbrev pub ppp_number : Network → ℕ
ppp_number Ipv4 = 0x21
ppp_number Ipv6 = 0x57

-- a protocol field of two bytes
pub record IsLongPpp (bytes : List ℕ) (network : Network) (packet : List ℕ) : Type 0 where
  pub whole : 2 ≤ length bytes
  pub protocol_at_0 : big_from 0 2 bytes ≡ ppp_number network
  pub packet_at_2 : packet ≡ drop 2 bytes

-- a protocol field of one byte, which is odd
pub record IsShortPpp (bytes : List ℕ) (network : Network) (packet : List ℕ) : Type 0 where
  pub whole : 1 ≤ length bytes
  pub protocol_at_0 : slice_index bytes 0 ≡ ppp_number network
  pub packet_at_1 : packet ≡ drop 1 bytes

abbrev pub IsPppBody : List ℕ → Network → List ℕ → Type 0
IsPppBody bytes network packet = IsLongPpp bytes network packet ⊎ IsShortPpp bytes network packet

-- what stands behind address and control, ff 03, which may be left out
abbrev pub behind_control : List ℕ → List ℕ
behind_control bytes = if nat_lt (length bytes) 2 then bytes
    else (if slice_index bytes 0 == 0xff then (if slice_index bytes 1 == 0x03 then drop 2 bytes else bytes) else bytes)

abbrev pub IsPpp : List ℕ → Network → List ℕ → Type 0
IsPpp bytes network packet = IsPppBody (behind_control bytes) network packet

-- the bytes carry this packet of this network, a row for each link type
abbrev pub CarriesOn : Link → Option ℕ → List ℕ → Network → List ℕ → Type 0
CarriesOn link.Null tags bytes network packet = IsNull bytes network packet
CarriesOn link.Ethernet tags bytes network packet = IsTyped 12 14 tags bytes network packet
CarriesOn link.Ppp tags bytes network packet = IsPpp bytes network packet
CarriesOn link.Raw12 tags bytes network packet = IsRaw bytes network packet
CarriesOn link.Raw14 tags bytes network packet = IsRaw bytes network packet
CarriesOn link.Raw tags bytes network packet = IsRaw bytes network packet
CarriesOn link.Loop tags bytes network packet = IsLoop bytes network packet
CarriesOn link.LinuxSll tags bytes network packet = IsTyped 14 16 tags bytes network packet
CarriesOn link.Ipv4 tags bytes network packet = (network ≡ Ipv4) × (packet ≡ bytes)
CarriesOn link.Ipv6 tags bytes network packet = (network ≡ Ipv6) × (packet ≡ bytes)
CarriesOn link.LinuxSll2 tags bytes network packet = IsTyped 0 20 tags bytes network packet

-- how many tags are looked through, as a list of at most one number
abbrev pub tags_way : Option ℕ → List ℕ
tags_way None = []
tags_way (Some most) = most ∷ []

-- a framing as a list of numbers, of which no two framings have one
abbrev pub way_of : Framing → List ℕ
way_of framing = number_in framing.link ∷ framing.extensions ∷ tags_way framing.tags

-- so framed, the bytes carry this packet
abbrev pub Carries : Framing → List ℕ → Network → List ℕ → Type 0
Carries framing bytes network packet = CarriesOn framing.link framing.tags bytes network packet
