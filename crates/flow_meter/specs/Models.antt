-- What the records of the code stand for: the words of the definition.
use Rattle.std.specs.Prelude.{Option, Some, None}
use Rattle.flow_times.specs.Moments.{Moment}
use Rattle.flow_times.specs.Flows.{Times, Use, Side, Flow}
use Rattle.flow_times.specs.Metered.{Cause, Ended}
use Rattle.flow_meter.specs.declared.clock.Moment.{Moment as Stand}
use Rattle.flow_meter.specs.declared.packet.Timeouts.{Timeouts}
use Rattle.flow_meter.specs.declared.packet.Packet.{Packet}
use Rattle.flow_meter.specs.declared.flow.SideRecord.{SideRecord}
use Rattle.flow_meter.specs.declared.flow.FlowRecord.{FlowRecord}
use Rattle.flow_meter.specs.declared.flow.EndCause.{EndCause}
use Rattle.flow_meter.specs.declared.flow.EndedFlow.{EndedFlow}

-- the moment
abbrev pub moment_of : Stand → Moment
moment_of now = record { stretch = now.stretch; clock = now.clock }

-- the time-outs
abbrev pub times_of : Timeouts → Times
times_of times = record { idle = times.idle; active = times.active; close = times.close; one_way = times.one_way }

-- the packet
abbrev pub use_of : Packet → Use
use_of packet = record {
  key = packet.key;
  number = packet.number;
  moment = moment_of packet.moment;
  time = packet.time;
  is_tcp = packet.is_tcp;
  is_high = packet.is_high;
  payload = packet.payload;
  octets = packet.octets;
  flags = packet.flags;
}

-- what an end has sent
abbrev pub side_of : SideRecord → Side
side_of side = record {
  packets = side.packets;
  payload = side.payload;
  octets = side.octets;
  flags = side.flags;
}

-- the flow
abbrev pub flow_of : FlowRecord → Flow
flow_of flow = record {
  key = flow.key;
  number = flow.number;
  is_high = flow.is_high;
  stretch = flow.stretch;
  began = flow.began;
  seen = flow.seen;
  first = flow.first;
  last = flow.last;
  is_tcp = flow.is_tcp;
  low = side_of flow.low;
  high = side_of flow.high;
}

-- the packet that a flow ended by
abbrev pub cause_of : EndCause → Cause
cause_of cause = record { number = cause.number; clock = cause.clock; is_room = cause.is_room }

-- if it ended by one
abbrev pub causes_of : Option EndCause → Option Cause
causes_of None = None
causes_of (Some cause) = Some (cause_of cause)

-- the flow that has ended
abbrev pub ended_of : EndedFlow → Ended
ended_of ended = record { flow = flow_of ended.flow; by = causes_of ended.by }
