-- When a record can take a packet more: its sums have room.
use Rattle.std.specs.Prelude.{◌≡◌, ◌+◌, ◌<◌, ◌^◌, true, false}
use Rattle.flow_times.specs.Flows.{begun, grown}
use Rattle.flow_times.specs.Metered.{made_way, takes}
use Rattle.flow_meter.specs.declared.packet.Packet.{Packet}
use Rattle.flow_meter.specs.declared.flow.SideRecord.{SideRecord}
use Rattle.flow_meter.specs.declared.flow.FlowRecord.{FlowRecord}
use Rattle.flow_meter.specs.declared.flow.EndedFlow.{EndedFlow}
use Rattle.flow_meter.specs.declared.flow.Met.{Met}
use Rattle.flow_meter.specs.declared.flow.Met.TheVariants.{Grown, Renewed, Lost}
use Rattle.flow_meter.specs.declared.packet.Timeouts.{Timeouts}
use Rattle.flow_meter.specs.Models.{ended_of, flow_of, times_of, use_of}

-- a packet's number and its bytes are numbers of their widths
pub record HasSizes (packet : Packet) : Type 0 where
  pub number : packet.number < 2 ^ 64
  pub payload : packet.payload < 2 ^ 32
  pub octets : packet.octets < 2 ^ 32

-- with a packet more the sums of an end are numbers of their width
pub record CanSend (side : SideRecord) (packet : Packet) : Type 0 where
  pub packets : side.packets + 1 < 2 ^ 64
  pub payload : side.payload + packet.payload < 2 ^ 128
  pub octets : side.octets + packet.octets < 2 ^ 128

-- and so are those of the flow
pub record CanGrow (flow : FlowRecord) (packet : Packet) : Type 0 where
  pub low : CanSend flow.low packet
  pub high : CanSend flow.high packet

-- the packet belongs to the flow, which has it now
pub record Grows (times : Timeouts) (old new : FlowRecord) (packet : Packet) : Type 0 where
  pub takes : takes (times_of times) (flow_of old) (use_of packet) ≡ true
  pub key : new.key ≡ old.key
  pub grown : CanGrow old packet → flow_of new ≡ grown (flow_of old) (use_of packet)

-- or it does not: the flow has ended, and the packet has begun another one
pub record Renews (times : Timeouts) (old new : FlowRecord) (packet : Packet) (ended : EndedFlow) : Type 0 where
  pub takes : takes (times_of times) (flow_of old) (use_of packet) ≡ false
  pub begun : flow_of new ≡ begun (use_of packet)
  pub way : ended_of ended ≡ made_way (times_of times) false (flow_of old) (use_of packet)

-- what a packet of its key makes of a flow
abbrev pub MeetsFlow : Timeouts → (old new : FlowRecord) → Packet → Met → Type 0
MeetsFlow times old new packet Grown = Grows times old new packet
MeetsFlow times old new packet (Renewed ended) = Renews times old new packet ended
MeetsFlow times old new packet Lost = ⊥
