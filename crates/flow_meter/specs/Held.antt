-- Which flows a meter holds, and what its calls make of them by the definition.
use Rattle.std.specs.Prelude.{◌≡◌, ◌≢◌, ℕ, ◌+◌, ◌*◌, ◌<◌, ◌≤◌, ◌^◌, List, [], ◌∷◌, length, filter, map, take, Option, Some, None, slice_get}
use Rattle.plain_map.specs.declared.keys.Key.{Key}
use Rattle.list_laws.proofs.Lists.{In, Once}
use Rattle.flow_times.specs.Flows.{Side, Flow}
use Rattle.flow_times.specs.Metered.{Ended, Rules, is_at, is_in, is_other, metered}
use Rattle.flow_meter.specs.declared.packet.Packet.{Packet}
use Rattle.flow_meter.specs.declared.flow.FlowRecord.{FlowRecord}
use Rattle.flow_meter.specs.declared.flow.EndedFlow.{EndedFlow}
use Rattle.flow_meter.specs.declared.meter.Meter.{Meter}
use Rattle.flow_meter.specs.declared.flow.Met.{Met}
use Rattle.flow_meter.specs.declared.flow.Met.TheVariants.{Grown, Renewed, Lost}
use Rattle.flow_meter.specs.Models.{ended_of, flow_of, times_of, use_of}

-- ---- where flows are

-- what a meter has at its places, which of them are free, and how many of these are left
pub record Slots : Type 0 where
  pub flows : List (Option FlowRecord)
  pub free : List ℕ
  pub left : ℕ

-- what stands at a meter's places
abbrev pub slots_of : Meter → Slots
slots_of meter = record { flows = meter.flows.items; free = meter.free.items; left = meter.left }

-- a place's flow, if there is one
abbrev pub as_flow : Option FlowRecord → Option Flow
as_flow None = None
as_flow (Some flow) = Some (flow_of flow)

-- the flow of a place's slot
abbrev pub flow_in : Option (Option FlowRecord) → Option Flow
flow_in None = None
flow_in (Some slot) = as_flow slot

-- the flow at a place
abbrev pub flow_at : Slots → ℕ → Option Flow
flow_at slots place = flow_in (slice_get slots.flows place)

-- a place has this flow now, or none, and the others have what they had
pub record Puts (old new : Slots) (place : ℕ) (flow : Option Flow) : Type 0 where
  pub there : flow_at new place ≡ flow
  pub others : (other : ℕ) → other ≢ place → flow_at new other ≡ flow_at old other
  pub places : length new.flows ≡ length old.flows

-- so many places there are
abbrev pub places_in : Slots → ℕ
places_in slots = length slots.flows

-- so many places a meter has
abbrev pub places_of : Meter → ℕ
places_of meter = places_in (slots_of meter)

-- the places that are free
abbrev pub free_in : Slots → List ℕ
free_in slots = take slots.left slots.free

-- ---- what is held

-- an end has sent no more packets than there were, and no more bytes than these have
pub record HasSent (last : ℕ) (side : Side) : Type 0 where
  pub packets : side.packets ≤ last
  pub payload : side.payload ≤ last * 2 ^ 32
  pub octets : side.octets ≤ last * 2 ^ 32

-- the flow is one of packets with numbers up to this one
pub record IsUpTo (last : ℕ) (flow : Flow) : Type 0 where
  pub number : flow.number ≤ last
  pub low : HasSent last flow.low
  pub high : HasSent last flow.high

-- behind the packet with this number these flows are held: each stands at a place of its own, and all other
-- places are free
pub record Holds (slots : Slots) (last : ℕ) (held : List Flow) : Type 0 where
  pub placed : List (ℕ × Flow)
  pub are_held : map (λ one. one.1) placed ≡ held
  pub there : (one : ℕ × Flow) → In one placed → flow_at slots one.0 ≡ Some one.1
  pub whole : (place : ℕ) (flow : Flow) → flow_at slots place ≡ Some flow → In (place, flow) placed
  pub apart : (flow : Flow) → In flow held → filter (is_at flow.key) held ≡ flow ∷ []
  pub numbered : (flow other : Flow) → In flow held → In other held → flow.number ≡ other.number → flow ≡ other
  pub up_to : (flow : Flow) → In flow held → IsUpTo last flow
  pub free : (place : ℕ) → In place (free_in slots) → (place < places_in slots) × (flow_at slots place ≡ None)
  pub once : Once (free_in slots)
  pub few : length held + slots.left ≡ places_in slots
  pub as_many : length slots.free ≡ places_in slots

-- ---- what calls make

-- the time-outs stay, and so does the number of places
pub record Stays (old new : Meter) : Type 0 where
  pub times : new.times ≡ old.times
  pub places : places_of new ≡ places_of old

-- nothing has happened
pub record IsSame (old new : Meter) : Type 0 where
  pub times : new.times ≡ old.times
  pub slots : slots_of new ≡ slots_of old

-- a packet does by the definition what made the one meter the other, and these ended by it; if what was told of it
-- holds
abbrev pub IsMetered : (Rules → List Flow → Type 0) → (old new : Meter) → Packet → List Ended → Type 0
IsMetered told old new packet ended =
    (rules : Rules) (last : ℕ) (held : List Flow) → rules.times ≡ times_of old.times →
    Holds (slots_of old) last held → last < packet.number → told rules held →
    Holds (slots_of new) packet.number (metered rules held (use_of packet)).held
    × ((metered rules held (use_of packet)).ended ≡ ended)

-- nothing has to be told
abbrev pub Always : Rules → List Flow → Type 0
Always rules held = Unit {0}

-- there is a flow, and it is of this key
abbrev pub HasKey : Key → Option Flow → Type 0
HasKey key None = ⊥
HasKey key (Some flow) = flow.key ≡ key

-- a flow of this key is at that place of a meter
abbrev pub KeyIsAt : Meter → ℕ → Key → Type 0
KeyIsAt meter place key = HasKey key (flow_at (slots_of meter) place)

-- the other places have what they had
abbrev pub OthersStay : (old new : Meter) → ℕ → Type 0
OthersStay old new place =
    (other : ℕ) → other ≢ place → flow_at (slots_of new) other ≡ flow_at (slots_of old) other

-- a packet is in the flow at this place, by the definition, and these ended by it; if what was told of it holds
pub record IsTaken (told : Rules → List Flow → Type 0) (old new : Meter) (place : ℕ) (packet : Packet)
    (ended : List Ended) : Type 0 where
  pub key : KeyIsAt new place packet.key
  pub others : OthersStay old new place
  pub metered : IsMetered told old new packet ended

-- what a packet makes whose key was found there
abbrev pub Meets : (old new : Meter) → ℕ → Packet → Met → Type 0
Meets old new place packet Lost = IsSame old new × (KeyIsAt old place packet.key → ⊥)
Meets old new place packet Grown = KeyIsAt old place packet.key × IsTaken Always old new place packet []
Meets old new place packet (Renewed ended) =
    KeyIsAt old place packet.key × IsTaken Always old new place packet (ended_of ended ∷ [])

-- no flow of the key is held, and its class has room
pub record HasRoom (packet : Packet) (rules : Rules) (held : List Flow) : Type 0 where
  pub absent : filter (is_at packet.key) held ≡ []
  pub room : length (filter (is_in rules (rules.class_of packet.key)) held) < rules.items

-- as many flows are held as there are places
abbrev pub IsWhole : Meter → Type 0
IsWhole meter = (last : ℕ) (held : List Flow) → Holds (slots_of meter) last held → length held ≡ places_of meter

-- a place had no flow
abbrev pub WasFree : Meter → ℕ → Type 0
WasFree meter place =
    (last : ℕ) (held : List Flow) → Holds (slots_of meter) last held → flow_at (slots_of meter) place ≡ None

-- what a packet makes that begins a flow
abbrev pub Begins : (old new : Meter) → Packet → Option ℕ → Type 0
Begins old new packet None = IsSame old new × IsWhole old
Begins old new packet (Some place) = WasFree old place × IsTaken (HasRoom packet) old new place packet []

-- no flow of the key is held, its class is full, and these are the places of its flows
pub record IsFull (meter : Meter) (packet : Packet) (places : List ℕ) (rules : Rules) (held : List Flow) : Type 0 where
  pub absent : filter (is_at packet.key) held ≡ []
  pub full : rules.items ≤ length (filter (is_in rules (rules.class_of packet.key)) held)
  pub some : 0 < rules.items
  pub theirs : (place : ℕ) (flow : Flow) → In place places → flow_at (slots_of meter) place ≡ Some flow →
      rules.class_of flow.key ≡ rules.class_of packet.key
  pub whole : (place : ℕ) (flow : Flow) → flow_at (slots_of meter) place ≡ Some flow →
      rules.class_of flow.key ≡ rules.class_of packet.key → In place places

-- what a packet makes that another flow makes way for
abbrev pub Makes : (old new : Meter) → List ℕ → Packet → Option (ℕ × EndedFlow) → Type 0
Makes old new places packet None =
    IsSame old new × ((place : ℕ) → In place places → flow_at (slots_of old) place ≡ None)
Makes old new places packet (Some (place, ended)) =
    In place places × (flow_at (slots_of old) place ≡ Some (flow_of ended.flow))
    × IsTaken (IsFull old packet places) old new place packet (ended_of ended ∷ [])

-- the flow at a place is taken out
pub record IsLetGo (old new : Meter) (place : ℕ) (flow : FlowRecord) : Type 0 where
  pub was : flow_at (slots_of old) place ≡ Some (flow_of flow)
  pub gone : flow_at (slots_of new) place ≡ None
  pub others : OthersStay old new place
  pub rest : (last : ℕ) (held : List Flow) → Holds (slots_of old) last held →
      Holds (slots_of new) last (filter (is_other flow.key) held)

-- if there is one
abbrev pub Lets : (old new : Meter) → ℕ → Option FlowRecord → Type 0
Lets old new place None = IsSame old new × (flow_at (slots_of old) place ≡ None)
Lets old new place (Some flow) = IsLetGo old new place flow
