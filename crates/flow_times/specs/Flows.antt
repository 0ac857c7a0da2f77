-- A flow that ends by time, and which packets belong to it.
-- Source: RFC 5470, 5.1.1 (a flow expires where no packet of it was seen for some time, or where it has lasted long);
-- RFC 7011 and IANA's registry of IPFIX elements, 136, for the reasons of an end.
use Rattle.std.specs.Prelude.{◌≡◌, ◌⊎◌, ℕ, ◌+◌, ◌<◌, ◌≤◌, ◌==◌, not, ◌&&◌, ◌||◌, Bool, false, min, bit_and, bit_or, if◌then◌else◌, Option, Some, None}
use Rattle.plain_map.specs.declared.keys.Key.{Key}
use Rattle.flow_times.specs.Moments.{Moment, IsFrom}

-- the time-outs, in the unit of the clock; without a third one the flags of TCP end nothing. One way a flow has the
-- packets of one end alone, and that end's FIN closes it.
pub record Times : Type 0 where
  pub idle : ℕ
  pub active : ℕ
  pub close : Option ℕ
  pub one_way : Bool

-- what a packet is to its flow: the first one of a capture has the number 1; the upper one of both endpoints sent it
-- or not
pub record Use : Type 0 where
  pub key : Key
  pub number : ℕ
  pub moment : Moment
  pub time : ℕ
  pub is_tcp : Bool
  pub is_high : Bool
  pub payload : ℕ
  pub octets : ℕ
  pub flags : ℕ

-- what an end has sent, and all flags of it
pub record Side : Type 0 where
  pub packets : ℕ
  pub payload : ℕ
  pub octets : ℕ
  pub flags : ℕ

-- a flow: its key, its first packet and who sent it, the clocks at its first and its last one, the least and the
-- greatest of its times, and what both ends have sent
pub record Flow : Type 0 where
  pub key : Key
  pub number : ℕ
  pub is_high : Bool
  pub stretch : ℕ
  pub began : ℕ
  pub seen : ℕ
  pub first : ℕ
  pub last : ℕ
  pub is_tcp : Bool
  pub low : Side
  pub high : Side

-- the flags have this one: FIN is 1, SYN 2, RST 4 and ACK 16
abbrev pub has_flag : ℕ → ℕ → Bool
has_flag flags flag = not (bit_and flags flag == 0)

-- no packet yet
abbrev pub nothing : Side
nothing = record { packets = 0; payload = 0; octets = 0; flags = 0 }

-- with what a packet brings
abbrev pub sent : Side → Use → Side
sent side packet = record {
  packets = side.packets + 1;
  payload = side.payload + packet.payload;
  octets = side.octets + packet.octets;
  flags = bit_or side.flags packet.flags;
}

-- the flow that a packet begins
abbrev pub begun : Use → Flow
begun packet = record {
  key = packet.key;
  number = packet.number;
  is_high = packet.is_high;
  stretch = packet.moment.stretch;
  began = packet.moment.clock;
  seen = packet.moment.clock;
  first = packet.time;
  last = packet.time;
  is_tcp = packet.is_tcp;
  low = if packet.is_high then nothing else sent nothing packet;
  high = if packet.is_high then sent nothing packet else nothing;
}

-- a flow with a packet more
abbrev pub grown : Flow → Use → Flow
grown flow packet = record flow {
  seen = packet.moment.clock;
  first = min flow.first packet.time;
  last = if flow.last == min flow.last packet.time then packet.time else flow.last;
  low = if packet.is_high then flow.low else sent flow.low packet;
  high = if packet.is_high then sent flow.high packet else flow.high;
}

-- TCP has told the flow's end: RST from either side, or FIN from both, or one way from the one that there is
abbrev pub is_told : Times → Flow → Bool
is_told times flow =
    flow.is_tcp && (has_flag (bit_or flow.low.flags flow.high.flags) 4
    || (has_flag flow.low.flags 1 && (times.one_way || has_flag flow.high.flags 1)))

-- so long it may be quiet, and whether it counts as closed
abbrev pub quiet_by : Times → Option ℕ → Bool → ℕ
quiet_by times None told = times.idle
quiet_by times (Some close) told = if told then close else times.idle

-- so long a flow may be quiet
abbrev pub quiet : Times → Flow → ℕ
quiet times flow = quiet_by times times.close (is_told times flow)

abbrev pub closed_by : Option ℕ → Bool → Bool
closed_by None told = false
closed_by (Some close) told = told

-- the flow counts as closed
abbrev pub is_closed : Times → Flow → Bool
is_closed times flow = closed_by times.close (is_told times flow)

-- the last clock at which a packet still belongs to it
abbrev pub deadline : Times → Flow → ℕ
deadline times flow = min (flow.began + times.active) (flow.seen + quiet times flow)

-- a SYN without ACK
abbrev pub opens : Use → Bool
opens packet = packet.is_tcp && (has_flag packet.flags 2 && not (has_flag packet.flags 16))

-- a packet of its key belongs to the flow
pub record Belongs (times : Times) (flow : Flow) (packet : Use) : Type 0 where
  pub stretch : packet.moment.stretch ≡ flow.stretch
  pub within : packet.moment.clock ≤ deadline times flow
  pub goes_on : (is_closed times flow && opens packet) ≡ false

-- at this moment its deadline has passed, or its stretch
abbrev pub IsPast : Times → Flow → Moment → Type 0
IsPast times flow now =
    (flow.stretch < now.stretch) ⊎ ((flow.stretch ≡ now.stretch) × (deadline times flow < now.clock))

-- ---- what is promised

-- what is past stays past, and no packet belongs to it any more: so nothing depends on when it is taken out
abbrev pub PastStaysPast : Type 0
PastStaysPast = (times : Times) (flow : Flow) (one other : Moment) → IsPast times flow one → IsFrom one other →
    IsPast times flow other

-- and takes no packet
abbrev pub PastTakesNone : Type 0
PastTakesNone = (times : Times) (flow : Flow) (packet : Use) → IsPast times flow packet.moment →
    Belongs times flow packet → ⊥

-- at the moment of its own packet a flow is not past: its end does not lie before what was printed by then
abbrev pub NewIsNotPast : Type 0
NewIsNotPast = (times : Times) (packet : Use) → IsPast times (begun packet) packet.moment → ⊥

-- nor at that of another one of its packets
abbrev pub GrownIsNotPast : Type 0
GrownIsNotPast = (times : Times) (flow : Flow) (packet : Use) → Belongs times flow packet →
    IsPast times (grown flow packet) packet.moment → ⊥

-- each packet is counted once
abbrev pub packets_of : Flow → ℕ
packets_of flow = flow.low.packets + flow.high.packets

-- a first packet counts for one, and so does each other
abbrev pub CountsEach : Type 0
CountsEach = (flow : Flow) (packet : Use) →
    (packets_of (begun packet) ≡ 1) × (packets_of (grown flow packet) ≡ packets_of flow + 1)
