-- The IPv6 head and its extension heads, as facts about bytes at named places. The head has 40 bytes.
-- Source: RFC 8200, section 3, and section 4 for the extension heads. Places count bytes from 0.
use Rattle.std.specs.Prelude.{◌≡◌, ◌⊎◌, ℕ, ◌+◌, ◌-◌, ◌*◌, ◌/◌, ◌≤◌, List, [], ◌∷◌, length, slice_index}
use Rattle.byteorder.specs.Endian.{big_from}
use Rattle.packet_heads.specs.Transport.{HasProtocol, HasPorts, count_behind}
use Rattle.packet_heads.specs.declared.packet.Heads.{Heads}

-- options for each hop, a route, or options for the destination: the length stands at 1, in units of 8 bytes behind
-- the first 8
pub record IsOptions (packet : List ℕ) (place number size : ℕ) : Type 0 where
  pub number_is : (number ≡ 0) ⊎ (number ≡ 43) ⊎ (number ≡ 60)
  pub size_is : size ≡ 8 * (slice_index packet (place + 1) + 1)

-- the head of a fragment, which has 8 bytes, and of the first one: its offset, the high 13 bits of the bytes at 2, is 0
pub record IsFirst (packet : List ℕ) (place number size : ℕ) : Type 0 where
  pub number_is : number ≡ 44
  pub size_is : size ≡ 8
  pub first : big_from (place + 2) 2 packet / 8 ≡ 0

-- an extension head with this number and of so many bytes, which were captured, begins at this place
pub record IsExtension (packet : List ℕ) (place number size : ℕ) : Type 0 where
  pub is : IsOptions packet place number size ⊎ IsFirst packet place number size
  pub captured : place + size ≤ length packet

-- from the place where the head with this number begins, extension heads of these sizes stand one behind the other, and
-- at the end begins the head with the last number; each tells the next one's number at its first byte
abbrev pub IsChain : List ℕ → List ℕ → (place number end last : ℕ) → Type 0
IsChain packet [] place number end last = (end ≡ place) × (last ≡ number)
IsChain packet (size ∷ sizes) place number end last =
    IsExtension packet place number size × IsChain packet sizes (place + size) (slice_index packet place) end last

-- An IPv6 packet with these endpoints and this protocol, in which at most so many extension heads stand. The payload
-- length does not count the head, but counts the extension heads.
pub record HasIpv6 (most : ℕ) (packet : List ℕ) (heads : Heads) : Type 0 where
  pub version : heads.version ≡ 6
  pub whole : 40 ≤ length packet
  pub version_at_0 : slice_index packet 0 / 16 ≡ 6
  pub sizes : List ℕ
  pub few : length sizes ≤ most
  pub end : ℕ
  pub last : ℕ
  pub chain : IsChain packet sizes 40 (slice_index packet 6) end last
  pub protocol : HasProtocol packet end last (count_behind (big_from 4 2 packet) (end - 40)) heads.protocol
  pub source_at_8 : big_from 8 16 packet ≡ heads.source.address
  pub target_at_24 : big_from 24 16 packet ≡ heads.target.address
  pub ports : HasPorts packet end heads.source.port heads.target.port
