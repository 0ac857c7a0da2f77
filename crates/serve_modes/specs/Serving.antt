-- `serve` as a job of the loop over batches: what a pile has, what was served, and what is printed of it.
use Rattle.std.specs.Prelude.{◌≡◌, ◌≤◌, ℕ, ◌+◌, ◌^◌, List, [], ◌∷◌, Vec, length, map, flat_map}
use Rattle.std.specs.Option.{ForSome}
use Rattle.std.specs.declared.alloc.Global.{Global}
use Rattle.word_rows.specs.Shape.{AreBelow}
use Rattle.capture_faults.specs.declared.ending.Ending.{Ending}
use Rattle.report_text.specs.Report.{report_of}
use Rattle.shared_table.specs.Values.{TableValue}
use Rattle.trace_share.specs.declared.outcome.Outcome.{Outcome}
use Rattle.trace_share.specs.Work.{IsLogOf, room_in}
use Rattle.batch_deals.specs.declared.service.Service.{Service}
use Rattle.batch_runner.specs.declared.workers.SeatWorker.{SeatWorker}
use Rattle.batch_runner.specs.Opened.{IsOpened}
use Rattle.batch_runner.specs.Served.{AreServed, Served}
use Rattle.command_line.specs.declared.plan.Plan.{Plan}
use Rattle.mode_parts.specs.Callings.{calling_of}
use Rattle.batch_runner.specs.Printed.{AreLines, CanBeTold}
use Rattle.serve_modes.specs.declared.serving.ClosedBatch.{ClosedBatch}
use Rattle.serve_modes.specs.declared.serving.Serving.{Serving}
use Rattle.mode_parts.specs.declared.calling.Calling.{Calling}
use Rattle.mode_parts.specs.PacketCalls.{MakeCalls}
use Rattle.serve_modes.specs.Progress.{HasServed, IsGoing}
use Rattle.mode_parts.specs.Reading.{AreBetween}
use Rattle.mode_parts.specs.Planned.{IsServiceOf}
use Rattle.serve_modes.specs.Served.{lines_so_far, run_report}

-- ---- batches of packets

abbrev pub joined : List (List (List ℕ)) → List (List ℕ)
joined batches = flat_map (λ batch. batch) batches

-- behind so many packets, the calls of each of these batches of packets were served as a batch
abbrev pub AreServedOf : Calling → List (List (List ℕ)) → (before : ℕ) → List Served → Type 0
AreServedOf calling [] before served = served ≡ []
AreServedOf calling (batch ∷ batches) before served =
    (first : Served) × (others : List Served) × (served ≡ first ∷ others) × MakeCalls calling (before + 1) batch
    first.calls
    × AreBetween before (before + length batch) first.calls × AreServedOf calling batches (before + length batch) others

-- these batches of packets were served so, as the plan says
pub record IsServedSo (plan : Plan) (service : Service) (batches : List (List (List ℕ))) (served : List Served) :
    Type 0 where
  pub asks : IsServiceOf plan service
  pub each : AreServed service [] served
  pub of : AreServedOf (calling_of plan) batches 0 served

-- the text is the head line and the lines of these batches
abbrev pub IsLines : Plan → List (List (List ℕ)) → List ℕ → Type 0
IsLines plan batches text =
    (service : Service) × (served : List Served) × IsServedSo plan service batches served
    × (text ≡ lines_so_far plan service served)

-- the text is the whole report of them, with this ending
abbrev pub IsWholeReport : Plan → List (List (List ℕ)) → Ending → List ℕ → Type 0
IsWholeReport plan batches ending text =
    (service : Service) × (served : List Served) × IsServedSo plan service batches served
    × (text ≡ report_of (run_report plan service (length (joined batches)) served ending))

-- ---- the job

-- so many packets were served
pub record IsServing (job : Serving) (many : ℕ) : Type 0 where
  pub given : ForSome job.service.rows (AreBelow (2 ^ 32))
  pub going : IsGoing job.service job.progress
  pub count : job.packets ≡ many
  pub few : job.progress.totals.calls ≤ many

-- these batches were, by this plan, and this is the text of them
pub record HasDone (job : Serving) (plan : Plan) (batches : List (List (List ℕ))) (put : List ℕ) : Type 0 where
  pub served : List Served
  pub asks : IsServiceOf plan job.service
  pub framed : job.calling ≡ calling_of plan
  pub has : HasServed job.service job.progress served
  pub of : AreServedOf (calling_of plan) batches 0 served
  pub count : job.packets ≡ length (joined batches)
  pub text : put ≡ lines_so_far plan job.service served

-- a worker that keeps what its calls came to, call by call
abbrev pub CallWorker : Type 0
CallWorker = SeatWorker (Vec Outcome Global)

-- a table is open for the batch of these packets, so many, which stand behind so many others: their calls are the job's
pub record HasOpenedFor {K : Type 0} (holds : K → List Outcome → Type 0) (room : K → ℕ) (job : Serving)
    (t : TableValue) (workers : List (SeatWorker K)) (many before : ℕ) (packets : List (List ℕ)) : Type 0 where
  pub count : many ≡ length packets
  pub few : length packets ≤ 65536
  pub make : MakeCalls job.calling (before + 1) packets job.calls.items
  pub between : AreBetween before (before + length packets) job.calls.items
  pub opens : IsOpened holds room job.service job.progress.pairs.items job.calls.items t workers

-- for workers that keep logs
abbrev pub HasOpened : Serving → TableValue → List CallWorker → (many before : ℕ) → List (List ℕ) → Type 0
HasOpened job t workers many before packets = HasOpenedFor IsLogOf room_in job t workers many before packets

-- these are the lines of a batch that is closed
abbrev pub TellsBatch : ClosedBatch → List ℕ → Type 0
TellsBatch batch lines =
    CanBeTold batch.service batch.calls.items batch.closed (map (λ log. log.items) batch.logs.items)
    × AreLines batch.service batch.before batch.calls.items batch.closed (map (λ log. log.items) batch.logs.items) lines
