-- A batch as it was run, and as it is told.
-- Source: this project's own.
use Rattle.std.specs.Prelude.{◌≡◌, ℕ, ◌+◌, ◌-◌, ◌%◌, ◌<◌, ◌≤◌, ◌==◌, List, [], length, filter, slice_index_or}
use Rattle.std.specs.List.{AllZip}
use Rattle.plain_map.specs.declared.records.CallId.{CallId}
use Rattle.sim_steps.specs.declared.adds.Added.{Added}
use Rattle.sim_steps.specs.declared.adds.Totals.{Totals}
use Rattle.sim_steps.specs.Order.{Entry}
use Rattle.sim_totals.specs.declared.table.ClosedTotals.{ClosedTotals}
use Rattle.packet_adders.specs.declared.frames.Frame.{Frame}
use Rattle.packet_adders.specs.Work.{IsAnswerTo}
use Rattle.sim_totals.specs.Rule.{no_add}
use Rattle.totals_runner.specs.Counted.{Counted, IsCounted}

-- The batch of these frames was counted from the totals that were first on, and so it was closed; of each seat these
-- are its answers.
pub record IsOfRun (seats : ℕ) (first : Totals) (frames : List Frame) (logs : List (List Added)) (closed : ClosedTotals)
    (batch : Counted) : Type 0 where
  pub counted : IsCounted seats batch
  pub begins : batch.first ≡ first
  pub answers : AllZip IsAnswerTo frames batch.answers
  pub as_many : length logs ≡ seats
  pub logs_are : (seat : ℕ) → seat < seats →
      slice_index_or logs seat [] ≡ filter (λ a. a.seat == seat) batch.answers
  pub order_is : closed.order.items ≡ batch.order
  pub left_is : closed.totals ≡ batch.left

-- The answers of seats that take turns, of which the first is that with this
-- number; of each seat these are the answers.
pub record AreInTurn (seats first : ℕ) (logs : List (List Added)) (answers : List Added) : Type 0 where
  pub turns : (i : ℕ) (d : Added) → i < length answers → (slice_index_or answers i d).seat ≡ (first + i) % seats
  pub logs_are : (seat : ℕ) → seat < seats →
      slice_index_or logs seat [] ≡ filter (λ a. a.seat == seat) answers

-- an entry of an order is one of the answers of its seat
pub record IsEntry (logs : List (List Added)) (entry : Entry) : Type 0 where
  pub seat : entry.0 < length logs
  pub some : 0 < entry.1
  pub few : entry.1 ≤ length (slice_index_or logs entry.0 [])

-- an answer that nobody gave
abbrev pub no_answer : Added
no_answer = record { seat = 0; number = 0; add = no_add; count = 0; steps = 0; seen = [] }

-- its name, by these answers
abbrev pub id_in : (logs : List (List Added)) → Entry → CallId
id_in logs entry = record {
  seat = entry.0;
  number = entry.1;
  packet = (slice_index_or (slice_index_or logs entry.0 []) (entry.1 - 1) no_answer).add.packet;
}
