-- `trial` as a job of the loop over batches: what was served is what `serve` would serve, and only its counts are told.
use Rattle.std.specs.Prelude.{◌≡◌, ℕ, List, []}
use Rattle.capture_faults.specs.declared.ending.Ending.{Ending}
use Rattle.report_text.specs.Trials.{trial_lines}
use Rattle.shared_table.specs.Values.{TableValue}
use Rattle.batch_deals.specs.declared.service.Service.{Service}
use Rattle.batch_runner.specs.declared.totals.Totals.{Totals}
use Rattle.batch_runner.specs.declared.workers.SeatWorker.{SeatWorker}
use Rattle.batch_runner.specs.Served.{Served}
use Rattle.batch_runner.specs.Totals.{IsTotalOf, room_of}
use Rattle.command_line.specs.declared.plan.Plan.{Plan}
use Rattle.serve_modes.specs.declared.trying.Trying.{Trying}
use Rattle.serve_modes.specs.Headline.{tried_of}
use Rattle.serve_modes.specs.Serving.{HasDone, HasOpenedFor, IsServedSo, IsServing}

-- before the end there is no text
abbrev pub IsNoText : Plan → List (List (List ℕ)) → List ℕ → Type 0
IsNoText plan batches text = text ≡ []

-- the text is the three lines of these batches of packets, served as the plan says
abbrev pub IsTrialOf : Plan → List (List (List ℕ)) → Ending → List ℕ → Type 0
IsTrialOf plan batches ending text =
    (service : Service) × (served : List Served) × IsServedSo plan service batches served
    × (text ≡ trial_lines (tried_of plan served))

-- so many packets were served
abbrev pub IsTrying : Trying → ℕ → Type 0
IsTrying job many = IsServing job.serving many

-- These batches were, by this plan, and nothing was put. The lines are those that `serve` would have told.
pub record HasTried (job : Trying) (plan : Plan) (batches : List (List (List ℕ))) (put : List ℕ) : Type 0 where
  pub lines : List ℕ
  pub done : HasDone job.serving plan batches lines
  pub number : job.number ≡ plan.number
  pub packets : job.packets ≡ plan.packets
  pub batch : job.batch ≡ plan.batch
  pub none : put ≡ []

-- a worker that keeps what its calls came to, all in all
abbrev pub CountWorker : Type 0
CountWorker = SeatWorker Totals

-- a table is open for the batch of these packets, so many, which stand behind so many others
abbrev pub HasOpenedTrial : Trying → TableValue → List CountWorker → (many before : ℕ) → List (List ℕ) → Type 0
HasOpenedTrial job t workers many before packets =
    HasOpenedFor IsTotalOf room_of job.serving t workers many before packets
