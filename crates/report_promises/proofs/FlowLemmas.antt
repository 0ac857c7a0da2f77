-- The key of a packet's call has a text, with the lower endpoint first, if the numbers of its heads fit their fields.
use Rattle.std.proofs.Common.{◌≡◌, ◌⊎◌, inl, inr, ℕ, ◌+◌, ◌*◌, ◌/◌, ◌%◌, ◌^◌, ◌<◌, ◌≤◌, ◌==◌, Bool, true, false, cond, refl, sym, ap, subst, arith}
use Rattle.std.specs.Prelude.{not, ◌&&◌, ◌||◌}
use Rattle.packet_heads.specs.Heads.{HasWidths, IsWithin}
use Rattle.packet_heads.specs.Transport.{number_of}
use Rattle.packet_heads.specs.declared.packet.Endpoint.{Endpoint}
use Rattle.packet_heads.specs.declared.packet.Heads.{Heads}
use Rattle.packet_heads.specs.declared.packet.Protocol.{Protocol}
use Rattle.packet_heads.specs.declared.packet.Protocol.TheVariants.{Tcp, Udp}
use Rattle.plain_map.specs.declared.calls.Call.{Call}
use Rattle.plain_map.specs.declared.calls.Call.TheVariants.{Insert, Remove, Lookup, Tally, Count, Put}
use Rattle.plain_map.specs.Serving.{IsAskable}
use Rattle.key_texts.specs.declared.rules.CallRule.{CallRule}
use Rattle.key_texts.specs.declared.rules.CallRule.TheVariants.{Sessions, Flows}
use Rattle.report_told.specs.Rules.{amount_in, amount_limit}
use Rattle.plain_map.specs.Calls.{key_in}
use Rattle.flow_keys.specs.Flow.{call_by, flow_call, flow_key, has_flag, is_below, key_between, version_bit}
use Rattle.key_texts.specs.Inserts.{InsertsOnly}
use Rattle.flow_reading.specs.Flows.{IsFlow}

-- a version's bit
record IsBit (version bit : ℕ) : Type 0 where
  is : ((version ≡ 4) × (bit ≡ 0)) ⊎ ((version ≡ 6) × (bit ≡ 2 ^ 40))

-- each version has its bit
is_bit : (version : ℕ) → (version ≡ 4) ⊎ (version ≡ 6) → IsBit version (version_bit version)
is_bit version (inl four) = record { is = inl (four, ap version_bit four) }
is_bit version (inr six) = record { is = inr (six, ap version_bit six) }

-- one endpoint is not above the other, by address and then by port
abbrev IsFirst : Endpoint → Endpoint → Type 0
IsFirst low high = (low.address < high.address) ⊎ ((low.address ≡ high.address) × (low.port ≤ high.port))

-- an endpoint that is below another is not above it
below_first : (one other : Endpoint) → is_below one other ≡ true → IsFirst one other
below_first one other is = grind arith

-- and where it is not below, the other is not above it
above_first : (one other : Endpoint) → is_below one other ≡ false → IsFirst other one
above_first one other is = grind arith

-- the number is that of TCP or that of UDP
known_number : (protocol : Protocol) → (number_of protocol ≡ 6) ⊎ (number_of protocol ≡ 17)
known_number (Tcp flags payload) = inl refl
known_number (Udp payload) = inr refl

-- the key between two endpoints, the lower one first
flow_between : (version bit number : ℕ) (low high : Endpoint) → IsBit version bit → (number ≡ 6) ⊎ (number ≡ 17) →
    IsWithin version low → IsWithin version high → IsFirst low high → IsFlow (record {
      k0 = low.address / 2 ^ 64;
      k1 = low.address % 2 ^ 64;
      k2 = high.address / 2 ^ 64;
      k3 = high.address % 2 ^ 64;
      k4 = bit + low.port * 2 ^ 24 + high.port * 2 ^ 8 + number;
    })
flow_between version bit number low high b known l h first =
    let rest : low.port * 2 ^ 24 + high.port * 2 ^ 8 + number < 2 ^ 40 = rest_small in
    record {
      text = record {
        known = protocol_known known;
        small = elim b.is [
          | inl four ↦ omega (arith, four.1, rest)
          | inr six ↦ omega (arith, six.1, rest)
        ];
        ipv4 = λ less. elim b.is [
          | inl four ↦ record {
            low_upper = omega (arith, l.ipv4_address four.0);
            low = omega (arith, l.ipv4_address four.0);
            high_upper = omega (arith, h.ipv4_address four.0);
            high = omega (arith, h.ipv4_address four.0);
          }
          | inr six ↦ absurd (omega (arith, six.1, less))
        ];
      };
      words = record {
        k0 = omega (arith, l.address);
        k1 = omega arith;
        k2 = omega (arith, h.address);
        k3 = omega arith;
        k4 = elim b.is [
          | inl four ↦ omega (arith, four.1, rest)
          | inr six ↦ omega (arith, six.1, rest)
        ];
      };
      lower_first = elim first [
        | inl less ↦ inl (omega (arith, less))
        | inr same ↦ inr (omega (arith, same.0), ports same.1)
      ];
    }
  where
    rest_small : low.port * 2 ^ 24 + high.port * 2 ^ 8 + number < 2 ^ 40
    rest_small = elim known [
      | inl tcp ↦ omega (arith, l.port, h.port, tcp)
      | inr udp ↦ omega (arith, l.port, h.port, udp)
    ]

    small_number : number < 2 ^ 8
    small_number = elim known [ inl tcp ↦ omega (arith, tcp) | inr udp ↦ omega (arith, udp) ]

    ports : low.port ≤ high.port → (bit + low.port * 2 ^ 24 + high.port * 2 ^ 8 + number) / 2 ^ 24 % 2 ^ 16
        ≤ (bit + low.port * 2 ^ 24 + high.port * 2 ^ 8 + number) / 2 ^ 8 % 2 ^ 16
    ports less = elim b.is [
      | inl four ↦ omega (arith, four.1, l.port, h.port, small_number, less)
      | inr six ↦ omega (arith, six.1, l.port, h.port, small_number, less)
    ]

    protocol_known : (number ≡ 6) ⊎ (number ≡ 17) → ((bit + low.port * 2 ^ 24 + high.port * 2 ^ 8 + number) % 2 ^ 8 ≡ 6)
        ⊎ ((bit + low.port * 2 ^ 24 + high.port * 2 ^ 8 + number) % 2 ^ 8 ≡ 17)
    protocol_known (inl tcp) = elim b.is [
      | inl four ↦ inl (omega (arith, four.1, tcp))
      | inr six ↦ inl (omega (arith, six.1, tcp))
    ]
    protocol_known (inr udp) = elim b.is [
      | inl four ↦ inr (omega (arith, four.1, udp))
      | inr six ↦ inr (omega (arith, six.1, udp))
    ]

-- a packet's call is about its flow
call_key : (rule : CallRule) (heads : Heads) (packet : ℕ) → key_in (flow_call rule heads packet) ≡ flow_key heads
call_key Flows heads packet = refl
call_key Sessions heads packet = by heads.protocol
  where
    tcp : (ends asks : Bool) (payload : ℕ) (none : Bool) →
        key_in (cond ends (Remove (flow_key heads)) (cond asks (Insert (flow_key heads) packet)
        (cond none (Lookup (flow_key heads)) (Tally (flow_key heads) payload)))) ≡ flow_key heads
    tcp true asks payload none = refl
    tcp false true payload none = refl
    tcp false false payload true = refl
    tcp false false payload false = refl

    by : (protocol : Protocol) → key_in (call_by protocol (flow_key heads) packet) ≡ flow_key heads
    by (Tcp flags payload) =
        tcp (has_flag flags 1 || has_flag flags 4) (has_flag flags 2 && not (has_flag flags 16)) payload (payload == 0)
    by (Udp payload) = refl

-- the key of a packet has a text, with the lower endpoint first
pub flow_of_key : (heads : Heads) → HasWidths heads → IsFlow (flow_key heads)
flow_of_key heads widths = go (is_below heads.target heads.source) refl
  where
    number : ℕ
    number = number_of heads.protocol

    go : (b : Bool) → is_below heads.target heads.source ≡ b →
        IsFlow (cond b (key_between heads.version heads.target heads.source number)
        (key_between heads.version heads.source heads.target number))
    go true is =
        flow_between heads.version (version_bit heads.version) number heads.target heads.source
        (is_bit heads.version widths.known) (known_number heads.protocol) widths.target widths.source
        (below_first heads.target heads.source is)
    go false is =
        flow_between heads.version (version_bit heads.version) number heads.source heads.target
        (is_bit heads.version widths.known) (known_number heads.protocol) widths.source widths.target
        (above_first heads.target heads.source is)

-- the key of a packet's call is a flow's
pub flow_of_call : (rule : CallRule) (heads : Heads) (packet : ℕ) → HasWidths heads →
    IsFlow (key_in (flow_call rule heads packet))
flow_of_call rule heads packet widths = subst IsFlow (sym (call_key rule heads packet)) (flow_of_key heads widths)

-- and an insert or a count brings the packet's number
pub value_of_call : (rule : CallRule) (heads : Heads) (packet : ℕ) → InsertsOnly packet (flow_call rule heads packet)
value_of_call Flows heads packet = refl
value_of_call Sessions heads packet = by heads.protocol
  where
    tcp : (ends asks : Bool) (payload : ℕ) (none : Bool) →
        InsertsOnly packet (cond ends (Remove (flow_key heads)) (cond asks (Insert (flow_key heads) packet)
        (cond none (Lookup (flow_key heads)) (Tally (flow_key heads) payload))))
    tcp true asks payload none = tt
    tcp false true payload none = refl
    tcp false false payload true = tt
    tcp false false payload false = tt

    by : (protocol : Protocol) → InsertsOnly packet (call_by protocol (flow_key heads) packet)
    by (Tcp flags payload) =
        tcp (has_flag flags 1 || has_flag flags 4) (has_flag flags 2 && not (has_flag flags 16)) payload (payload == 0)
    by (Udp payload) = refl

-- bytes that can be kept can be told
pub amount_of_call : (call : Call) → IsAskable call → amount_in call < amount_limit call
amount_of_call (Insert key value) askable = omega arith
amount_of_call (Remove key) askable = omega arith
amount_of_call (Lookup key) askable = omega arith
amount_of_call (Tally key amount) askable = omega (arith, askable)
amount_of_call (Count key value amount) askable = askable.1
amount_of_call (Put key value) askable = omega arith
