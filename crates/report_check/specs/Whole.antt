-- Which packets stand in the order as often as they must.
use Rattle.std.specs.Prelude.{◌≡◌, ℕ, suc, ◌+◌, ◌<◌, ◌≤◌, List, length, map, filter, IsSortedByKey, slice_index}
use Rattle.std.specs.Ordering.{nat_cmp}
use Rattle.plain_map.specs.declared.records.Record.{Record}
use Rattle.plain_map.specs.declared.records.Pending.{Pending}
use Rattle.report_told.specs.Rules.{times}
use Rattle.plain_map.specs.Calls.{is_update}

-- calls in the order of their packets, of which no two pending ones have one
pub record AreInOrder (calls : List Record) (pending : List Pending) : Type 0 where
  pub calls_sorted : IsSortedByKey (λ r. r.packet) nat_cmp calls
  pub pending_sorted : IsSortedByKey (λ u. u.packet) nat_cmp pending
  pub once : (packet : ℕ) → times packet (map (λ u. u.packet) pending) ≤ 1

-- how many answered calls a packet has
abbrev pub answers_at : List Record → (packet : ℕ) → ℕ
answers_at calls packet = times packet (map (λ r. r.packet) calls)

-- how many pending updates
abbrev pub effects_at : List Pending → (packet : ℕ) → ℕ
effects_at pending packet = times packet (map (λ u. u.packet) (filter (λ u. is_update u.call) pending))

-- it stands, where it has an answered call
abbrev pub IsThere : List Record → (order : List ℕ) → (packet : ℕ) → Type 0
IsThere calls order packet = 1 ≤ answers_at calls packet → 1 ≤ times packet order

-- it stands once at most, and only where it has a call that may stand
pub record MayBeThere (calls : List Record) (pending : List Pending) (order : List ℕ) (packet : ℕ) : Type 0 where
  pub once : times packet order ≤ 1
  pub known : 1 ≤ times packet order → 1 ≤ answers_at calls packet + effects_at pending packet

-- the packet stands at the next place too
abbrev pub IsRepeated : (order : List ℕ) → (place : ℕ) → Type 0
IsRepeated order place = (suc place < length order) × (slice_index order place ≡ slice_index order (suc place))

-- the least packet that has an answered call and does not stand
pub record IsFirstMissing (calls : List Record) (order : List ℕ) (packet : ℕ) : Type 0 where
  pub fault : IsThere calls order packet → ⊥
  pub earlier : (other : ℕ) → other < packet → IsThere calls order other

-- the least packet that stands and may not
pub record IsFirstStray (calls : List Record) (pending : List Pending) (order : List ℕ) (packet : ℕ) : Type 0 where
  pub fault : MayBeThere calls pending order packet → ⊥
  pub earlier : (other : ℕ) → other < packet → MayBeThere calls pending order other

-- the packet stands as it must
pub record StandsSo (calls : List Record) (pending : List Pending) (order : List ℕ) (packet : ℕ) : Type 0 where
  pub there : IsThere calls order packet
  pub may : MayBeThere calls pending order packet

-- the least packet that does not
pub record IsLeastOf (calls : List Record) (pending : List Pending) (order : List ℕ) (packet : ℕ) : Type 0 where
  pub fault : StandsSo calls pending order packet → ⊥
  pub least : (other : ℕ) → other < packet → StandsSo calls pending order other
