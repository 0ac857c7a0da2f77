-- The packets of the calls that were read, and which may stand behind them.
use Rattle.std.specs.Prelude.{◌≡◌, ℕ, ◌+◌, ◌<◌, nat_lt, nat_le, Bool, true, List, Option, Some, None}
use Rattle.std.specs.Ordering.{nat_cmp}
use Rattle.std.specs.List.{AllByRecursion}
use Rattle.std.specs.BTreeSet.{contains}
use Rattle.report_told.specs.Rules.{Rise, times}
use Rattle.report_reading.specs.declared.packets.Packets.{Packets}

-- above the last, where there is one
abbrev pub is_above : Option ℕ → (packet : ℕ) → Bool
is_above (Some last) packet = nat_lt last packet
is_above None packet = true

-- above all of these
abbrev pub AllBelow : List ℕ → (packet : ℕ) → Type 0
AllBelow packets packet = AllByRecursion (λ other. other < packet) packets

-- a call of this packet may end behind those that ended, while others wait
pub record CanEnd (ended waits : List ℕ) (packet : ℕ) : Type 0 where
  pub above : AllBelow ended packet
  pub apart : times packet waits ≡ 0

-- no other call has the packet
abbrev pub CanWait : (ended waits : List ℕ) (packet : ℕ) → Type 0
CanWait ended waits packet = times packet waits + times packet ended ≡ 0

-- these are kept
pub record ArePackets (kept : Packets) (ended waits : List ℕ) : Type 0 where
  pub ended_are : kept.ended.items ≡ ended
  pub rise : Rise ended
  pub waits_are : (packet : ℕ) → contains nat_cmp kept.waiting packet ≡ nat_le 1 (times packet waits)
