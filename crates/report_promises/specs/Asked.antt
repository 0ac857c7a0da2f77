-- What a packet's call is about.
use Rattle.std.specs.Prelude.{ℕ, ◌<◌}
use Rattle.packet_heads.specs.Heads.{HasWidths}
use Rattle.packet_heads.specs.declared.packet.Heads.{Heads}
use Rattle.plain_map.specs.declared.calls.Call.{Call}
use Rattle.plain_map.specs.Calls.{key_in}
use Rattle.plain_map.specs.Serving.{IsAskable}
use Rattle.flow_keys.specs.Flow.{flow_call}
use Rattle.key_texts.specs.Inserts.{InsertsOnly}
use Rattle.key_texts.specs.declared.rules.CallRule.{CallRule}
use Rattle.flow_reading.specs.Flows.{IsFlow}
use Rattle.report_told.specs.Rules.{amount_in, amount_limit}

-- where the numbers of a packet's heads fit their fields, the key of its call has a text that tells all of it, with the
-- lower endpoint first
abbrev pub CallsAreOfFlows : Type 0
CallsAreOfFlows = (rule : CallRule) (heads : Heads) (packet : ℕ) → HasWidths heads →
    IsFlow (key_in (flow_call rule heads packet))

-- an insert or a count brings the packet's number
abbrev pub CallsInsertPackets : Type 0
CallsInsertPackets = (rule : CallRule) (heads : Heads) (packet : ℕ) → InsertsOnly packet (flow_call rule heads packet)

-- the bytes of a call that can be asked can be told
abbrev pub AmountsFit : Type 0
AmountsFit = (call : Call) → IsAskable call → amount_in call < amount_limit call
