-- The text of a key, read from left to right.
use Rattle.std.specs.Prelude.{◌≡◌, ◌⊎◌, ℕ, ◌+◌, ◌*◌, ◌<◌, ◌≤◌, ◌==◌, ◌&&◌, ◌||◌, nat_lt, nat_le, if◌then◌else◌, Bool, List, codes, Option, Some, None}
use Rattle.plain_map.specs.declared.keys.Key.{Key}
use Rattle.plain_map.specs.Keys.{IsKey}
use Rattle.line_fields.specs.Reading.{◌>>=◌, number_at, text_at}
use Rattle.key_texts.specs.FlowText.{HasText, low_address, high_address, low_port, high_port}
use Rattle.flow_reading.specs.declared.ends.Host.{Host}
use Rattle.flow_reading.specs.declared.ends.End.{End}
use Rattle.flow_reading.specs.Groups.{groups_at}

-- an address of IPv4: four numbers with dots
unfoldable pub ipv4_at : List ℕ → Option (Host × List ℕ)
ipv4_at bytes = do
  first ← number_at 255 bytes
  one ← text_at (codes ".") first.1
  second ← number_at 255 one
  two ← text_at (codes ".") second.1
  third ← number_at 255 two
  three ← text_at (codes ".") third.1
  fourth ← number_at 255 three
  Some (
    record {
      bit = 0;
      upper = 0;
      lower = first.0 * 16777216 + second.0 * 65536 + third.0 * 256 + fourth.0;
    },
    fourth.1,
  )

-- an address of IPv6 behind its bracket: eight groups with colons
unfoldable pub ipv6_at : List ℕ → Option (Host × List ℕ)
ipv6_at bytes = do
  upper ← groups_at bytes
  middle ← text_at (codes ":") upper.1
  lower ← groups_at middle
  rest ← text_at (codes "]") lower.1
  Some (record { bit = 1099511627776; upper = upper.0; lower = lower.0 }, rest)

-- an address of IPv6, where this is left behind a bracket, or else one of IPv4
abbrev pub address_by : Option (List ℕ) → List ℕ → Option (Host × List ℕ)
address_by (Some rest) bytes = ipv6_at rest
address_by None bytes = ipv4_at bytes

-- an address
unfoldable pub address_at : List ℕ → Option (Host × List ℕ)
address_at bytes = address_by (text_at (codes "[") bytes) bytes

-- an address and a port
unfoldable pub end_at : List ℕ → Option (End × List ℕ)
end_at bytes = do
  address ← address_at bytes
  rest ← text_at (codes ":") address.1
  port ← number_at 65535 rest
  Some (record { host = address.0; port = port.0 }, port.1)

-- TCP, of whose name this was left, or else UDP
abbrev pub other_at : Option (List ℕ) → List ℕ → Option (ℕ × List ℕ)
other_at (Some rest) bytes = Some (6, rest)
other_at None bytes = do
  rest ← text_at (codes "/udp") bytes
  Some (17, rest)

-- the name of a protocol, as its number
unfoldable pub protocol_at : List ℕ → Option (ℕ × List ℕ)
protocol_at bytes = other_at (text_at (codes "/tcp") bytes) bytes

-- the ends are of one version, and the lower one comes first
abbrev pub in_order : End → End → Bool
in_order low high =
    low.host.bit == high.host.bit
    && (nat_lt low.host.upper high.host.upper
    || (low.host.upper == high.host.upper
    && (nat_lt low.host.lower high.host.lower
    || (low.host.lower == high.host.lower && nat_le low.port high.port))))

-- the key of two ends and a protocol
abbrev pub key_of_ends : End → End → ℕ → Key
key_of_ends low high number = record {
  k0 = low.host.upper;
  k1 = low.host.lower;
  k2 = high.host.upper;
  k3 = high.host.lower;
  k4 = low.host.bit + low.port * 16777216 + high.port * 256 + number;
}

-- a key's text
unfoldable pub flow_at : List ℕ → Option (Key × List ℕ)
flow_at bytes = do
  low ← end_at bytes
  rest ← text_at (codes "-") low.1
  high ← end_at rest
  protocol ← protocol_at high.1
  if in_order low.0 high.0 then Some (key_of_ends low.0 high.0 protocol.0, protocol.1) else None

-- the key has a text, which tells all of it, and in which the lower endpoint comes first
pub record IsFlow (key : Key) : Type 0 where
  pub text : HasText key
  pub words : IsKey key
  pub lower_first :
      (low_address key < high_address key) ⊎ ((low_address key ≡ high_address key) × (low_port key ≤ high_port key))
