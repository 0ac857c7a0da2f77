-- The packets of a made capture carry no payload, so none of their calls is a tally.
use Rattle.std.proofs.Common.{◌≡◌, ◌≤◌, ℕ, suc, ◌+◌, ◌/◌, Bool, true, false, List, [], ◌∷◌, ◌++◌, drop, length, get_or, map, Option, Some, None, refl, sym, ◌∙◌, ap, subst, arith}
use Rattle.std.specs.Prelude.{nat_lt, if◌then◌else◌, not, ◌&&◌, ◌||◌, slice_index}
use Rattle.std.specs.List.{All, range_with_len}
use Rattle.std.proofs.lemmas.List.Elements.{All-append, All-cons, All-head, All-map, All-nil, All-tail}
use Rattle.byteorder.specs.Endian.{big_from}
use Rattle.packet_heads.specs.declared.packet.Heads.{Heads}
use Rattle.packet_heads.specs.declared.packet.Protocol.{Protocol}
use Rattle.packet_heads.specs.declared.packet.Protocol.TheVariants.{Tcp, Udp}
use Rattle.packet_heads.specs.declared.framing.Network.TheVariants.{Ipv4}
use Rattle.packet_heads.specs.Links.{Carries}
use Rattle.packet_heads.proofs.CarriesLemmas.{HasIpv4-from_heads}
use Rattle.packet_heads.specs.Heads.{HasHeads, plain_framing}
use Rattle.packet_heads.specs.Ipv4.{HasIpv4}
use Rattle.packet_heads.specs.Transport.{HasFields, count_behind, number_of, payload_behind}
use Rattle.plain_map.specs.declared.calls.Call.{Call}
use Rattle.plain_map.specs.declared.calls.Call.TheVariants.{Insert, Remove, Lookup}
use Rattle.plain_map.specs.declared.keys.Key.{Key}
use Rattle.flow_keys.specs.Flow.{call_by, flow_key, has_flag}
use Rattle.pcap_reader.specs.Capture.{Saved}
use Rattle.pcap_reader.specs.Made.{drawn, flags_in, flow_in, frame_in, made_frame, made_saved, sides_in, tcp_frame, udp_flows, udp_frame}
use Rattle.mode_parts.specs.Callings.{plain_calling}
use Rattle.mode_parts.specs.PacketCalls.{MakesCall, MakeCalls, numbered}
use Rattle.serve_modes.proofs.TrialCounts.{HasNoTally, is_tally}

-- TCP without payload, or UDP
abbrev HasNoPayload : Protocol → Type 0
HasNoPayload (Tcp flags payload) = payload ≡ 0
HasNoPayload (Udp payload) = Unit {0}

-- such a packet makes no tally
no_tally_of : (protocol : Protocol) (key : Key) (packet : ℕ) → HasNoPayload protocol →
    is_tally (call_by protocol key packet) ≡ false
no_tally_of (Tcp flags payload) key packet none =
    subst (λ (p : ℕ). is_tally (call_by (Tcp flags p) key packet) ≡ false) (sym none)
    (by (has_flag flags 1 || has_flag flags 4) (has_flag flags 2 && not (has_flag flags 16)))
  where
    by : (ends asks : Bool) →
        is_tally (if ends then Remove key else (if asks then Insert key packet else Lookup key)) ≡ false
    by true asks = refl
    by false true = refl
    by false false = refl
no_tally_of (Udp payload) key packet none = refl

-- an IPv4 packet in a frame without a tag
carried_plain : (frame : List ℕ) → 14 ≤ length frame → big_from 12 2 frame ≡ 0x0800 →
    Carries plain_framing frame Ipv4 (drop 14 frame)
carried_plain frame whole type = record { whole = whole; types = []; few = omega arith; behind = (type, refl) }

-- a made TCP frame has a total length of 40 bytes, of which both heads are 20 each
tcp_none : (flags draw : ℕ) (heads : Heads) →
    HasHeads plain_framing (tcp_frame flags (sides_in draw).0 (sides_in draw).1) heads → HasNoPayload heads.protocol
tcp_none flags draw heads has =
    let ipv4 : HasIpv4 packet heads =
    HasIpv4-from_heads plain_framing frame packet Ipv4 heads (carried_plain frame has.carried.whole refl) refl has in
    fields ipv4.head heads.protocol ipv4.head_length.head_length ipv4.protocol.fields
  where
    frame : List ℕ
    frame = tcp_frame flags (sides_in draw).0 (sides_in draw).1

    packet : List ℕ
    packet = drop 14 frame

    fields : (head : ℕ) (protocol : Protocol) → head ≡ 20 →
        HasFields packet head (count_behind (big_from 2 2 packet) head) protocol → HasNoPayload protocol
    fields head (Tcp own payload) is read =
        read.1
        ∙ ap (λ (h : ℕ).
        payload_behind (slice_index packet (h + 12) / 16) (count_behind (big_from 2 2 packet) h)) is
    fields head (Udp payload) is read = tt

-- a made UDP frame is no TCP's
udp_none : (draw : ℕ) (heads : Heads) →
    HasHeads plain_framing (udp_frame (sides_in draw).0 (sides_in draw).1) heads → HasNoPayload heads.protocol
udp_none draw heads has =
    let ipv4 : HasIpv4 (drop 14 frame) heads =
    HasIpv4-from_heads plain_framing frame (drop 14 frame) Ipv4 heads (carried_plain frame has.carried.whole refl) refl
    has in
    by_number heads.protocol ipv4.protocol.is_number
  where
    frame : List ℕ
    frame = udp_frame (sides_in draw).0 (sides_in draw).1

    by_number : (protocol : Protocol) → 17 ≡ number_of protocol → HasNoPayload protocol
    by_number (Tcp own payload) is = absurd (omega (arith, is))
    by_number (Udp payload) is = tt

-- whichever frame is drawn
frame_none : (draw : ℕ) (heads : Heads) → HasHeads plain_framing (frame_in draw) heads → HasNoPayload heads.protocol
unfolding frame_in
frame_none draw heads has = by (nat_lt (flow_in draw) udp_flows) has
  where
    by : (datagram : Bool) →
        HasHeads plain_framing (if datagram then udp_frame (sides_in draw).0 (sides_in draw).1
        else tcp_frame (flags_in draw) (sides_in draw).0 (sides_in draw).1) heads →
        HasNoPayload heads.protocol
    by true has = udp_none draw heads has
    by false has = tcp_none (flags_in draw) draw heads has

-- a packet of the made capture of this number
abbrev pub IsMadeFrame : ℕ → List ℕ → Type 0
IsMadeFrame number packet = (place : ℕ) × (packet ≡ made_frame number place)

-- makes no tally
made_none : (number k : ℕ) (packet : List ℕ) (made : Option Call) → IsMadeFrame number packet →
    MakesCall plain_calling k packet made → HasNoTally (numbered k made)
made_none number k packet (Some call) is makes =
    let heads : Heads = makes.0 in
    let none = frame_none (drawn number is.0) heads
    (subst (λ (p : List ℕ). HasHeads plain_framing p heads) is.1 makes.1) in
    All-cons (λ (one : ℕ × Call). is_tally one.1 ≡ false) (k, call) []
    (ap is_tally makes.2 ∙ no_tally_of heads.protocol (flow_key heads) k none) (All-nil _)
made_none number k packet None is makes = All-nil _

-- and so none of their calls is one
pub made_calls : (number k : ℕ) (packets : List (List ℕ)) (calls : List (ℕ × Call)) →
    All (IsMadeFrame number) packets → MakeCalls plain_calling k packets calls → HasNoTally calls
made_calls number k [] calls are makes = subst HasNoTally (sym makes) (All-nil _)
made_calls number k (packet ∷ packets) calls are (made, others, here, rest, is) =
    subst HasNoTally (sym is)
    (both (numbered k made) others
    (made_none number k packet made (All-head (IsMadeFrame number) packet packets are) here)
    (made_calls number (suc k) packets others (All-tail (IsMadeFrame number) packet packets are) rest))
  where
    both : (one two : List (ℕ × Call)) → HasNoTally one → HasNoTally two → HasNoTally (one ++ two)
    both one two first second = All-append (λ (call : ℕ × Call). is_tally call.1 ≡ false) one two first second

-- the records of the made capture hold its packets
pub made_frames : (number many : ℕ) (records : List Saved) → records ≡ map (made_saved number) (range_with_len 1 many) →
    All (IsMadeFrame number) (map (λ (saved : Saved). saved.packet) records)
made_frames number many records is =
    subst (λ (all : List Saved). All (IsMadeFrame number) (map (λ (saved : Saved). saved.packet) all)) (sym is)
    (by (range_with_len 1 many))
  where
    by : (places : List ℕ) →
        All (IsMadeFrame number) (map (λ (saved : Saved). saved.packet) (map (made_saved number) places))
    by places =
        All-map (IsMadeFrame number) (λ (saved : Saved). saved.packet) (map (made_saved number) places)
        (All-map (λ (saved : Saved). IsMadeFrame number saved.packet) (made_saved number) places
        (λ k d within. (get_or places k d, refl)))
