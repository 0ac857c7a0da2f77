-- The calls of packets can be told.
use Rattle.std.proofs.Common.{◌≤◌, ◌<◌, ◌+◌, ◌^◌, ◌==◌, cond, true, false, ℕ, suc, Bool, List, [], ◌∷◌, Option, Some, None, length, sym, subst, arith}
use Rattle.std.specs.Prelude.{not, ◌&&◌, ◌||◌}
use Rattle.std.specs.List.{All}
use Rattle.std.proofs.lemmas.List.Elements.{All-append, All-cons, All-nil}
use Rattle.mode_parts.specs.declared.calling.Calling.{Calling}
use Rattle.packet_heads.specs.declared.packet.Heads.{Heads}
use Rattle.packet_heads.specs.declared.packet.Protocol.{Protocol}
use Rattle.packet_heads.specs.declared.packet.Protocol.TheVariants.{Tcp, Udp}
use Rattle.packet_heads.specs.Heads.{HasWidths}
use Rattle.plain_map.specs.declared.calls.Call.{Call}
use Rattle.plain_map.specs.declared.calls.Call.TheVariants.{Insert, Remove, Lookup, Tally}
use Rattle.plain_map.specs.Serving.{IsAskable}
use Rattle.key_texts.specs.Inserts.{IsOfRule}
use Rattle.key_texts.specs.declared.rules.CallRule.{CallRule}
use Rattle.key_texts.specs.declared.rules.CallRule.TheVariants.{Sessions, Flows}
use Rattle.flow_keys.specs.Flow.{call_by, flow_call, flow_key, has_flag}
use Rattle.report_promises.specs.Good.{IsFitting}
use Rattle.report_promises.proofs.FlowLemmas.{amount_of_call, flow_of_call, value_of_call}
use Rattle.mode_parts.specs.PacketCalls.{MakesCall, MakeCalls, numbered}

-- the call of a packet is one of the rule
rule_of_call : (rule : CallRule) (heads : Heads) (packet : ℕ) → IsOfRule rule (flow_call rule heads packet)
rule_of_call Flows heads packet = tt
rule_of_call Sessions heads packet = by heads.protocol
  where
    tcp : (ends asks : Bool) (payload : ℕ) (none : Bool) →
        IsOfRule Sessions (cond ends (Remove (flow_key heads)) (cond asks (Insert (flow_key heads) packet)
        (cond none (Lookup (flow_key heads)) (Tally (flow_key heads) payload))))
    tcp true asks payload none = tt
    tcp false true payload none = tt
    tcp false false payload true = tt
    tcp false false payload false = tt

    by : (protocol : Protocol) → IsOfRule Sessions (call_by protocol (flow_key heads) packet)
    by (Tcp flags payload) =
        tcp (has_flag flags 1 || has_flag flags 4) (has_flag flags 2 && not (has_flag flags 16)) payload (payload == 0)
    by (Udp payload) = tt

-- it can be told where it can be asked, its packet's number has 32 bits and the numbers of its heads fit
flow_fits : (rule : CallRule) (heads : Heads) (packet : ℕ) → packet < 2 ^ 32 → HasWidths heads →
    IsAskable (flow_call rule heads packet) → IsFitting rule (packet, flow_call rule heads packet)
flow_fits rule heads packet few widths askable = record {
  packet = few;
  flow = flow_of_call rule heads packet widths;
  rule_is = rule_of_call rule heads packet;
  value = value_of_call rule heads packet;
  amount = amount_of_call (flow_call rule heads packet) askable;
}

-- the call of a packet, where it makes one
one_fits : (calling : Calling) (n : ℕ) (packet : List ℕ) (made : Option Call) → n < 2 ^ 32 →
    MakesCall calling n packet made → All (IsFitting calling.calls) (numbered n made)
one_fits calling n packet (Some call) few (heads, has, is, widths, askable) =
    All-cons (IsFitting calling.calls) (n, call) []
    (subst (λ (c : Call). IsFitting calling.calls (n, c)) (sym is)
    (flow_fits calling.calls heads n few widths (subst IsAskable is askable)))
    (All-nil _)
one_fits calling n packet None few makes = All-nil _

-- and so all of them, where the packets have numbers of 32 bits
pub calls_fit : (calling : Calling) (n : ℕ) (packets : List (List ℕ)) (calls : List (ℕ × Call)) →
    n + length packets ≤ 2 ^ 32 → MakeCalls calling n packets calls → All (IsFitting calling.calls) calls
calls_fit calling n [] calls few none = subst (All (IsFitting calling.calls)) (sym none) (All-nil _)
calls_fit calling n (packet ∷ packets) calls few (made, others, here, rest, is) =
    subst (All (IsFitting calling.calls)) (sym is)
    (All-append (IsFitting calling.calls) (numbered n made) others
    (one_fits calling n packet made (omega (arith, few)) here)
    (calls_fit calling (suc n) packets others (omega (arith, few)) rest))
