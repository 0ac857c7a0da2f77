-- What is promised of packets that were served in batches, and what is printed of them.
use Rattle.std.specs.Prelude.{◌≡◌, ◌≤◌, ℕ, ◌-◌, All, false, true, List, [], ◌∷◌, ◌++◌, length, map, flat_map}
use Rattle.plain_map.specs.declared.calls.Call.{Call}
use Rattle.step_counts.specs.StepCounts.{step_bound}
use Rattle.trace_share.specs.declared.outcome.Outcome.{Outcome}
use Rattle.report_text.specs.declared.parts.Tail.{Tail}
use Rattle.capture_faults.specs.declared.ending.Ending.{Ending}
use Rattle.report_text.specs.Report.{Report, batch_lines, head_line}
use Rattle.batch_deals.specs.declared.service.Service.{Service}
use Rattle.batch_runner.specs.declared.totals.Totals.{Totals}
use Rattle.batch_history.specs.Batches.{all_calls, no_counts}
use Rattle.bound_laws.specs.Moments.{asked_of}
use Rattle.plain_map.specs.declared.records.Record.{Record}
use Rattle.plain_map.specs.History.{Whole}
use Rattle.plain_map.specs.Calls.{is_update}
use Rattle.batch_answers.specs.Answers.{AreAsOneThread, HasOwnRows, IsLikeOneThread, all_answers, calls_in, printed_in}
use Rattle.batch_runner.specs.Served.{Served, AreServed, history_in, depth_in, leaves_in, pairs_left}
use Rattle.batch_runner.specs.Printed.{all_lines, outcomes_in}
use Rattle.batch_runner.specs.Promises.{AreRight}
use Rattle.batch_runner.specs.Totals.{totals_of}
use Rattle.command_line.specs.declared.plan.Plan.{Plan}
use Rattle.report_promises.specs.Good.{AreCountedBySeat}
use Rattle.serve_modes.specs.Batches.{AreOfBatches}
use Rattle.mode_parts.specs.Planned.{IsServiceOf, head_of}

-- the lines of the calls of all batches, each with its seat
abbrev pub lines_in : Service → List Served → List (ℕ × Outcome)
lines_in service batches = flat_map (λ lines. lines.outcomes) (all_lines service no_counts batches)

-- an update took at most so many steps
abbrev pub IsWithin : (most : ℕ) → Record → Type 0
IsWithin most r = is_update r.call ≡ true → r.steps ≤ most

-- What holds of batches that were served, whatever the interleaving.
pub record IsPromised (service : Service) (batches : List Served) : Type 0 where
  -- One order of all calls is right: each stands after all that its caller had seen, with the plain map's reply. Steps
  -- are within the bound, and the leaves of each closed table cover all hashes and have their cause.
  pub right : AreRight service batches
  -- each answered call stands once in it as it is printed, with the counts of the lines, and nothing else does
  pub once : Whole (printed_in service no_counts batches) [] (all_calls [] (map (history_in service) batches))
  -- none of their updates took more steps than the bound of the settings that are asked for
  pub within : All (IsWithin (step_bound service.settings)) (printed_in service no_counts batches)
  -- the k-th answered line of each seat, over all batches, is that seat's call with the number k
  pub numbered : AreCountedBySeat (lines_in service batches)
  -- where no rows are given each call has its answer
  pub answered : HasOwnRows service → map asked_of (all_answers batches) ≡ calls_in batches
  -- Where no two seats share a key and no class has more keys than it has room for, or where there is one seat, replies
  -- and pairs are those of one thread.
  pub one_thread : IsLikeOneThread service (calls_in batches) → AreAsOneThread service batches

abbrev pub ServedArePromised : Type 0
ServedArePromised =
    (service : Service) (batches : List Served) → AreServed service [] batches → IsPromised service batches

-- These calls are served in batches, one after the other, each in a run of a table of its own, and so all of that
-- holds.
pub record AreDone (plan : Plan) (service : Service) (calls : List (ℕ × Call)) (batches : List Served) : Type 0 where
  pub asks : IsServiceOf plan service
  pub cut : AreOfBatches plan.batch calls (map (λ (batch : Served). batch.calls) batches)
  pub served : AreServed service [] batches
  pub promised : IsPromised service batches

-- ---- the report

-- how many leaves the last table has, and how deep its directory is
abbrev pub leaves_left : Service → (found : ℕ) → List Served → ℕ
leaves_left service found [] = found
leaves_left service found (batch ∷ batches) = leaves_left service (length (leaves_in service batch)) batches

abbrev pub depth_left : Service → (found : ℕ) → List Served → ℕ
depth_left service found [] = found
depth_left service found (batch ∷ batches) = depth_left service (depth_in service batch) batches

-- what the last lines tell of so many packets, with these totals, of a last table with so many leaves and that depth
abbrev pub tail_with : Service → (packets : ℕ) → Totals → (leaves depth : ℕ) → Ending → Tail
tail_with service packets totals leaves depth ending =
    record {
      leaves = leaves;
      depth = depth;
      ending = ending;
      packets = packets;
      calls = totals.calls;
      passed = packets - totals.calls;
      full = totals.refused;
      pending = 0;
      unbegun = 0;
      update = totals.update;
      bound = step_bound service.settings;
      lookup = totals.lookup;
    }

-- what they tell of so many packets, of which these batches were served
abbrev pub tail_of : Service → (packets : ℕ) → List Served → Ending → Tail
tail_of service packets batches ending =
    tail_with service packets (totals_of (outcomes_in batches)) (leaves_left service 0 batches)
    (depth_left service 0 batches) ending

-- the report of so many packets, of which these batches were served
abbrev pub run_report : Plan → Service → (packets : ℕ) → List Served → Ending → Report
run_report plan service packets batches ending =
    record {
      head = head_of false plan;
      batches = all_lines service no_counts batches;
      pairs = pairs_left [] batches;
      tail = tail_of service packets batches ending;
    }

-- its front up to the lines of these batches
unfoldable pub lines_so_far : Plan → Service → List Served → List ℕ
lines_so_far plan service batches =
    head_line (head_of false plan) ++ flat_map (batch_lines plan.seats) (all_lines service no_counts batches)
