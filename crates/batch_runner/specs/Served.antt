-- A batch of calls that seats serve, on a table of its own: for what a batch came to there is a run of its table. And
-- batches one after the other, of which each begins with the pairs that the last one left.
-- Source: this project's own. A call is its packet's number and what is asked.
use Rattle.std.specs.Prelude.{◌≡◌, ℕ, ◌<◌, ◌==◌, List, [], ◌∷◌, length, map, filter, slice_index_or, All, IsPermutation}
use Rattle.std.specs.List.Sorted.{IsSortedByKey}
use Rattle.step_counts.specs.declared.settings.Settings.{Settings}
use Rattle.step_counts.specs.StepCounts.{need_of}
use Rattle.plain_map.specs.declared.calls.Call.{Call}
use Rattle.plain_map.specs.declared.keys.Pair.{Pair}
use Rattle.plain_map.specs.Keys.{key_cmp}
use Rattle.plain_map.specs.History.{Placed}
use Rattle.plain_map.specs.declared.leaves.Leaf.{Leaf}
use Rattle.word_rows.specs.Shape.{Shape, sizes_of}
use Rattle.table_model.specs.declared.events.Event.{Event}
use Rattle.table_model.specs.Setup.{Setup}
use Rattle.table_model.specs.SeatStates.{SeatState, Idle}
use Rattle.table_model.specs.Worlds.{World, IsRun, world_after, seat_in}
use Rattle.table_model.specs.Order.{Closing, order_of}
use Rattle.table_model.specs.Closed.{closed_depth, closed_leaves, closed_pairs}
use Rattle.table_model.specs.Closing.{closing_with}
use Rattle.shared_table.specs.Openings.{setup_of}
use Rattle.trace_share.specs.declared.outcome.Outcome.{Outcome}
use Rattle.trace_share.specs.Outcomes.{asked_in, records_in, RefusedByRoom}
use Rattle.batch_history.specs.Batches.{Batch}
use Rattle.batch_rows.specs.BatchRows.{rows_of}
use Rattle.batch_rows.specs.Depths.{IsTableFor}
use Rattle.batch_deals.specs.declared.service.Service.{Service}
use Rattle.batch_deals.specs.Dealt.{shares_of}

-- what a table of a batch is opened with that has these settings
abbrev pub setup_in : Service → Settings → (first : List Pair) → (calls : List (ℕ × Call)) → Setup
setup_in service settings first calls =
    setup_of settings service.hashing
    (rows_of settings service.hashing service.rows first calls (shares_of service calls)) first

-- a batch: the settings of its table, and the pairs that it begins with; its calls in packet order; what the calls of
-- each seat came to, and the words of the closed table; all outcomes in packet order, each with its seat; and the pairs
-- that are left
pub record Served : Type 0 where
  pub settings : Settings
  pub first : List Pair
  pub calls : List (ℕ × Call)
  pub logs : List (List Outcome)
  pub words : List ℕ
  pub outcomes : List (ℕ × Outcome)
  pub pairs : List Pair

-- its table
abbrev pub setup_of_batch : Service → Served → Setup
setup_of_batch service batch = setup_in service batch.settings batch.first batch.calls

abbrev pub shape_in : Service → Served → Shape
shape_in service batch = (setup_of_batch service batch).shape

-- the words and the seats after these events
abbrev pub world_in : Service → Served → List Event → World
world_in service batch events = world_after (setup_of_batch service batch) events

-- there is a run of the table in which the seats make their calls, and no others, and end idle. It leaves these words
-- and records, and each call was refused exactly by room
pub record IsOfRun (service : Service) (batch : Served) : Type 0 where
  pub events : List Event
  pub run : IsRun (setup_of_batch service batch) events
  pub words_are : batch.words ≡ (world_in service batch events).words
  pub idle : All (λ (state : SeatState). state.stand ≡ Idle) (world_in service batch events).seats
  pub asked : map (map asked_in) batch.logs ≡ shares_of service batch.calls
  pub records :
      map records_in batch.logs
      ≡ map (λ (state : SeatState). state.account.records) (world_in service batch events).seats
  pub refused : (seat : ℕ) → seat < service.settings.seats →
      RefusedByRoom (sizes_of (shape_in service batch) seat) (need_of batch.settings) []
      (seat_in (world_in service batch events) seat).account.spent (slice_index_or batch.logs seat [])

-- the outcomes of all seats in the order of these calls, each with its seat: one for each call, and those of a seat are
-- the seat's, in its order
pub record AreInPacketOrder (calls : List (ℕ × Call)) (logs : List (List Outcome)) (outcomes : List (ℕ × Outcome)) :
    Type 0 where
  pub asked : map (λ o. asked_in o.1) outcomes ≡ calls
  pub seats : All (λ o. o.0 < length logs) outcomes
  pub each : (seat : ℕ) → seat < length logs →
      map (λ o. o.1) (filter (λ o. o.0 == seat) outcomes) ≡ slice_index_or logs seat []

-- the batch was served so, on a table with the settings that one of this batch has
pub record IsServed (service : Service) (batch : Served) : Type 0 where
  pub table : IsTableFor service.settings service.hashing service.rows batch.first batch.calls batch.settings
  pub of_run : IsOfRun service batch
  pub outcomes : AreInPacketOrder batch.calls batch.logs batch.outcomes
  pub left : IsPermutation (closed_pairs (shape_in service batch) batch.words) batch.pairs
  pub sorted : IsSortedByKey (λ pair. pair.key) key_cmp batch.pairs

-- so were these, one after the other; the first began with these pairs, and each other with those that were left
abbrev pub AreServed : Service → (first : List Pair) → List Served → Type 0
AreServed service first [] = Unit {0}
AreServed service first (batch ∷ batches) =
    (batch.first ≡ first) × IsServed service batch × AreServed service batch.pairs batches

-- the pairs that the last of them left
abbrev pub pairs_left : (first : List Pair) → List Served → List Pair
pairs_left first [] = first
pairs_left first (batch ∷ batches) = pairs_left batch.pairs batches

-- what its closed table leaves to the order
abbrev pub closing_in : Served → Closing
closing_in batch = closing_with batch.words (map records_in batch.logs) []

-- the one order of its calls
abbrev pub order_in : Service → Served → List Placed
order_in service batch = order_of (shape_in service batch) (closing_in batch)

-- the leaves of its closed table, and the depth of its directory
abbrev pub leaves_in : Service → Served → List Leaf
leaves_in service batch = closed_leaves (shape_in service batch) batch.words

abbrev pub depth_in : Service → Served → ℕ
depth_in service batch = closed_depth (shape_in service batch) batch.words

-- its records by seat, and its order
abbrev pub history_in : Service → Served → Batch
history_in service batch = record { logs = map records_in batch.logs; order = order_in service batch }
