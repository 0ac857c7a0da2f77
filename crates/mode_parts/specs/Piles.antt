-- What a pile of calls has.
use Rattle.std.specs.Prelude.{◌≡◌, ◌≤◌, ℕ, ◌+◌, List, length}
use Rattle.std.specs.Option.{ForSome}
use Rattle.batch_deals.specs.Dealt.{IsDealt}
use Rattle.mode_parts.specs.declared.pile.CallPile.{CallPile}
use Rattle.mode_parts.specs.PacketCalls.{MakeCalls}
use Rattle.mode_parts.specs.Reading.{AreBetween}

-- it has the calls of these packets, which stand behind so many others, dealt or not
pub record HoldsCalls (pile : CallPile) (before : ℕ) (packets : List (List ℕ)) : Type 0 where
  pub count : pile.packets ≡ length packets
  pub few : length packets ≤ 65536
  pub make : MakeCalls pile.calling (before + 1) packets pile.calls.items
  pub between : AreBetween before (before + length packets) pile.calls.items
  pub dealt : ForSome pile.dealt (IsDealt pile.service pile.calls.items)
