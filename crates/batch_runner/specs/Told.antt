-- What is told of a batch.
use Rattle.std.specs.Prelude.{◌≡◌, ℕ, ◌≤◌, All, List, [], length, map, vec_len}
use Rattle.std.specs.Borrow.{Bor}
use Rattle.plain_map.specs.declared.calls.Call.{Call}
use Rattle.plain_map.specs.declared.keys.Pair.{Pair}
use Rattle.table_model.specs.Closed.{closed_depth}
use Rattle.table_model.specs.Closing.{IsOfARun}
use Rattle.shared_table.specs.Values.{ClosedValue}
use Rattle.trace_share.specs.declared.outcome.Outcome.{Outcome}
use Rattle.trace_share.specs.Outcomes.{asked_in, records_in}
use Rattle.batch_rows.specs.Depths.{IsTableFor}
use Rattle.batch_deals.specs.declared.service.Service.{Service}
use Rattle.batch_runner.specs.declared.batch.Batch.{Batch}
use Rattle.batch_runner.specs.Totals.{totals_of}
use Rattle.batch_runner.specs.Served.{AreInPacketOrder, IsOfRun, IsServed, Served, depth_in, leaves_in, setup_in}
use Rattle.batch_deals.specs.Opens.{CanOpen, rules_of}
use Rattle.batch_deals.specs.Dealt.{shares_of}

-- this is what the batch came to
pub record IsToldBy (service : Service) (served : Served) (batch : Batch) : Type 0 where
  pub totals : batch.totals ≡ totals_of (map (λ o. o.1) served.outcomes)
  pub answered : batch.answered.items ≡ map (λ log. length (records_in log)) served.logs
  pub pairs : batch.pairs.items ≡ served.pairs
  pub leaves : batch.leaves ≡ length (leaves_in service served)
  pub depth : batch.depth ≡ depth_in service served

-- the table of a batch is closed, with these settings and words, and the calls of its seats came to these logs
pub record IsClosedBatch (service : Service) (first : List Pair) (calls : List (ℕ × Call)) (closed : ClosedValue)
    (logs : List (List Outcome)) : Type 0 where
  pub table : IsTableFor service.settings service.hashing service.rows first calls closed.shape.settings
  pub shape_is : closed.shape ≡ (setup_in service closed.shape.settings first calls).shape
  pub asked : map (map asked_in) logs ≡ shares_of service calls
  -- they are what a run of the table leaves, whatever is told of it
  pub of_run : (outcomes : List (ℕ × Outcome)) (pairs : List Pair) → IsOfRun service (record {
    settings = closed.shape.settings;
    first = first;
    calls = calls;
    logs = logs;
    words = closed.words;
    outcomes = outcomes;
    pairs = pairs;
  })
  pub of_a_run : IsOfARun closed.shape closed.words (map records_in logs) []
  pub shallow : closed_depth closed.shape closed.words ≤ closed.shape.settings.depth

-- outcomes that are read where they stand in the logs, each with its seat
abbrev pub read_there : List (ℕ × Bor Outcome) → List (ℕ × Outcome)
read_there outcomes = map (λ o. (o.0, o.1.now)) outcomes

-- a batch of which this is told, with this closed table and these outcomes in packet order
abbrev pub served_with : (first : List Pair) → (calls : List (ℕ × Call)) → (logs : List (List Outcome)) →
    (closed : ClosedValue) → (outcomes : List (ℕ × Outcome)) → Batch → Served
served_with first calls logs closed outcomes batch = record {
  settings = closed.shape.settings;
  first = first;
  calls = calls;
  logs = logs;
  words = closed.words;
  outcomes = outcomes;
  pairs = batch.pairs.items;
}

-- there are outcomes of a batch with these logs and this closed table, in packet order, and whatever these are, this is
-- what it came to
pub record HasOutcomes (service : Service) (first : List Pair) (calls : List (ℕ × Call)) (logs : List (List Outcome))
    (closed : ClosedValue) (batch : Batch) : Type 0 where
  pub some : (outcomes : List (ℕ × Outcome)) × AreInPacketOrder calls logs outcomes
  pub served : (outcomes : List (ℕ × Outcome)) → AreInPacketOrder calls logs outcomes →
      IsServed service (served_with first calls logs closed outcomes batch)
  pub told : (outcomes : List (ℕ × Outcome)) → AreInPacketOrder calls logs outcomes →
      IsToldBy service (served_with first calls logs closed outcomes batch) batch

-- the pairs that a batch of these calls leaves can open the next one, its counts are small, and its totals are of as
-- many outcomes as there were calls
pub record CanGoOn (service : Service) (calls : List (ℕ × Call)) (batch : Batch) : Type 0 where
  pub reopens : CanOpen (rules_of service) batch.pairs.items
  pub seats : vec_len batch.answered ≤ 8
  pub answered : All (λ count. count ≤ length calls) batch.answered.items
  pub counted : (outcomes : List Outcome) × (batch.totals ≡ totals_of outcomes) × (length outcomes ≡ length calls)
