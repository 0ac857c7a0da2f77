-- What a pile of dealt calls has.
use Rattle.std.specs.Prelude.{◌≡◌, ◌≤◌, ◌==◌, ℕ, ◌+◌, List, length, map, filter, vec_len, All}
use Rattle.std.specs.List.{range_with_len}
use Rattle.plain_map.specs.declared.calls.Call.{Call}
use Rattle.plain_map.specs.Calls.{key_in}
use Rattle.plain_map.specs.Serving.{IsAskable}
use Rattle.mode_parts.specs.PacketCalls.{MakeCalls}
use Rattle.flows_runner.specs.declared.pile.FlowPile.{FlowPile}
use Rattle.plain_map.specs.declared.rules.Rules.{Rules}
use Rattle.flows_runner.specs.Asked.{dealing_way, flow_seat}

-- the calls of a seat, in their order
abbrev pub calls_for : Rules → (seats seat : ℕ) → List Call → List Call
calls_for rules seats seat calls = filter (λ (call : Call). flow_seat rules seats (key_in call) == seat) calls

-- those of each seat, seat 0 first
abbrev pub shares_of : Rules → (seats : ℕ) → List Call → List (List Call)
shares_of rules seats calls = map (λ seat. calls_for rules seats seat calls) (range_with_len 0 seats)

-- for how many seats, by which rules, and how packets become calls
abbrev pub flow_way : FlowPile → List ℕ
flow_way pile = dealing_way (vec_len pile.shares) pile.classes.rules pile.calling

-- it has the calls of these packets, which stand behind so many others, dealt to the seats of their flows
pub record HoldsShares (pile : FlowPile) (before : ℕ) (packets : List (List ℕ)) : Type 0 where
  pub count : pile.packets ≡ length packets
  pub few : length packets ≤ 65536
  pub calls : List (ℕ × Call)
  pub make : MakeCalls pile.calling (before + 1) packets calls
  pub askable : All (λ (call : ℕ × Call). IsAskable call.1) calls
  pub shares_are : map (λ share. share.items) pile.shares.items
      ≡ shares_of pile.classes.rules (vec_len pile.shares) (map (λ (call : ℕ × Call). call.1) calls)
