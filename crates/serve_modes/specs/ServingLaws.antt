-- What holds of the text of batches that were served: it is that of their lines, and goes on to a report with each
-- ending.
use Rattle.std.proofs.Common.{◌≡◌, ℕ, List, ◌++◌, length, sym, ◌∙◌, ap, append_assoc}
use Rattle.std.specs.List.{flat_map}
use Rattle.std.specs.Prelude.{[], false}
use Rattle.capture_faults.specs.declared.ending.Ending.{Ending}
use Rattle.report_text.specs.Report.{batch_lines, head_line, report_of, session_line, tail_lines}
use Rattle.batch_deals.specs.declared.service.Service.{Service}
use Rattle.batch_runner.specs.Served.{Served, pairs_left}
use Rattle.batch_runner.specs.Printed.{all_lines}
use Rattle.command_line.specs.declared.plan.Plan.{Plan}
use Rattle.serve_modes.specs.declared.serving.Serving.{Serving}
use Rattle.mode_parts.specs.Planned.{head_of}
use Rattle.serve_modes.specs.Served.{lines_so_far, run_report, tail_of}
use Rattle.batch_history.specs.Batches.{no_counts}
use Rattle.serve_modes.specs.Serving.{HasDone, IsLines, IsWholeReport, joined}

-- what stands behind the lines of the batches
abbrev pub last_lines : Service → ℕ → List Served → Ending → List ℕ
last_lines service packets batches ending =
    flat_map session_line (pairs_left [] batches) ++ tail_lines (tail_of service packets batches ending)

pub report_of-run : (plan : Plan) (service : Service) (packets : ℕ) (batches : List Served) (ending : Ending) →
    report_of (run_report plan service packets batches ending)
    ≡ lines_so_far plan service batches ++ last_lines service packets batches ending
unfolding report_of lines_so_far
report_of-run plan service packets batches ending =
    sym (append_assoc (head_line (head_of false plan))
    (flat_map (batch_lines plan.seats) (all_lines service no_counts batches))
    (last_lines service packets batches ending))

-- the text so far is that of the lines
pub done_told : (job : Serving) (plan : Plan) (batches : List (List (List ℕ))) (put : List ℕ) →
    HasDone job plan batches put → IsLines plan batches put
done_told job plan batches put done = (
  job.service,
  done.served,
  record { asks = done.asks; each = done.has.served; of = done.of },
  done.text,
)

-- and it goes on to a report with each ending
pub done_begins : (job : Serving) (plan : Plan) (batches : List (List (List ℕ))) (put : List ℕ) (ending : Ending) →
    HasDone job plan batches put → (rest : List ℕ) × IsWholeReport plan batches ending (put ++ rest)
done_begins job plan batches put ending done =
    let many : ℕ = length (joined batches) in
    let rest : List ℕ = last_lines job.service many done.served ending in (
      rest,
      (
        job.service,
        done.served,
        record { asks = done.asks; each = done.has.served; of = done.of },
        ap (λ (t : List ℕ). t ++ rest) done.text ∙ sym (report_of-run plan job.service many done.served ending),
      ),
    )
