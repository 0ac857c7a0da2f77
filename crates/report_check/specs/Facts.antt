-- What is judged: the calls, each by its packet, and the order.
use Rattle.std.specs.Prelude.{◌≡◌, ℕ, ◌+◌, ◌<◌, ◌≤◌, List, map, filter, length, ◌==◌, All, IsPermutation, IsSortedByKey, Option, Some, None, slice_index_or}
use Rattle.std.specs.Ordering.{nat_cmp}
use Rattle.plain_map.specs.declared.records.Record.{Record}
use Rattle.plain_map.specs.declared.records.Pending.{Pending}
use Rattle.plain_map.specs.History.{Placed, packet_of}
use Rattle.plain_map.specs.Places.{IsInKeyOrder}
use Rattle.report_told.specs.Told.{Told}
use Rattle.report_told.specs.Rules.{times}
use Rattle.report_reading.specs.declared.kept.Kept.{Kept}
use Rattle.report_told.specs.Points.{calls_told, order_told, pending_told, records_told}

-- these are the calls of the report, in the order of their packets, and its order; no packet is of two calls
pub record Facts (told : Told) (calls : List Record) (pending : List Pending) (order : List ℕ) : Type 0 where
  pub calls_are : calls ≡ records_told told
  pub calls_sorted : IsSortedByKey (λ r. r.packet) nat_cmp calls
  pub pending_are : IsPermutation (pending_told told) pending
  pub pending_sorted : IsSortedByKey (λ u. u.packet) nat_cmp pending
  pub order_is : order ≡ order_told told
  pub once : (packet : ℕ) →
      times packet (map (λ r. r.packet) calls) + times packet (map (λ u. u.packet) (pending_told told)) ≤ 1
  pub call_seats : All (λ r. r.seat < 8) calls
  pub pending_seats : All (λ u. u.seat < 8) pending

-- what was read of a report, with its pending calls in the order of their packets, and its pairs in that of their keys
pub record HasFacts (kept : Kept) (told : Told) : Type 0 where
  pub head_is : kept.head ≡ told.head
  pub bound_is : kept.bound ≡ told.tail.bound
  pub pairs_are : kept.pairs.items ≡ told.pairs
  pub pairs_ordered : IsInKeyOrder kept.pairs.items
  pub facts : Facts told kept.calls.items kept.pending.items kept.order.items

-- the calls of a packet
abbrev pub placed_at : Told → (packet : ℕ) → List Placed
placed_at told packet = filter (λ placed. packet_of placed == packet) (calls_told told)

-- the call with this number, or there is none
abbrev pub IsCallOf : {A : Type 0} → (A → ℕ) → List A → (packet : ℕ) → Option A → Type 0
IsCallOf {A} key xs packet (Some x) =
    (i : ℕ) × (i < length xs) × (slice_index_or xs i x ≡ x) × (key x ≡ packet)
IsCallOf {A} key xs packet None = (i : ℕ) (d : A) → i < length xs → key (slice_index_or xs i d) ≡ packet → ⊥
