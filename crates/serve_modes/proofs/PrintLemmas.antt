-- The text of a report, as it is put piece by piece.
use Rattle.std.proofs.Common.{◌≡◌, ℕ, List, [], ◌∷◌, ◌++◌, sym, ◌∙◌, ap, append_assoc, append-nil}
use Rattle.std.specs.Prelude.{false}
use Rattle.std.specs.List.{flat_map}
use Rattle.plain_map.specs.declared.keys.Pair.{Pair}
use Rattle.capture_faults.specs.declared.ending.Ending.{Ending}
use Rattle.report_text.specs.Report.{batch_lines, head_line, report_of, session_line, tail_lines}
use Rattle.batch_deals.specs.declared.service.Service.{Service}
use Rattle.batch_runner.specs.declared.totals.Totals.{Totals}
use Rattle.batch_runner.specs.Served.{Served}
use Rattle.batch_runner.specs.Printed.{answered_in_all, lines_of, outcomes_in}
use Rattle.batch_runner.specs.Totals.{totals_of}
use Rattle.command_line.specs.declared.plan.Plan.{Plan}
use Rattle.serve_modes.specs.declared.progress.Progress.{Progress}
use Rattle.mode_parts.specs.Planned.{IsServiceOf, head_of}
use Rattle.serve_modes.specs.Served.{leaves_left, lines_so_far, run_report, tail_of, tail_with}
use Rattle.batch_history.specs.Batches.{no_counts}
use Rattle.serve_modes.specs.Progress.{HasServed}
use Rattle.serve_modes.specs.ServingLaws.{report_of-run}
use Rattle.serve_modes.proofs.ProgressLemmas.{lines_so_far-more}

-- of no batches there is the head line alone
pub no_lines : (plan : Plan) (service : Service) → head_line (head_of false plan) ≡ lines_so_far plan service []
unfolding lines_so_far
no_lines plan service = sym (append-nil (head_line (head_of false plan)))

-- ---- one batch more

pub section_of : (plan : Plan) (service : Service) (progress : Progress) (batches : List Served) (served : Served)
    (done held text : List ℕ) →
    IsServiceOf plan service → HasServed service progress batches → done ++ held ≡ lines_so_far plan service batches →
    text ≡ held ++ batch_lines service.settings.seats (lines_of service progress.before served) →
    done ++ text ≡ lines_so_far plan service (batches ++ served ∷ [])
section_of plan service progress batches served done held text asks has lines is =
    let line : List ℕ → ℕ → List ℕ = λ before seats. batch_lines seats (lines_of service before served) in
    let same : line progress.before service.settings.seats
    ≡ line (answered_in_all service no_counts batches) plan.seats =
    ap (λ (before : List ℕ). line before service.settings.seats) has.counts
    ∙ ap (line (answered_in_all service no_counts batches)) asks.settings.seats_are in
    ap (λ (t : List ℕ). done ++ t) is
    ∙ sym (append_assoc done held (line progress.before service.settings.seats))
    ∙ ap (λ (t : List ℕ). t ++ line progress.before service.settings.seats) lines
    ∙ ap (λ (t : List ℕ). lines_so_far plan service batches ++ t) same
    ∙ sym (lines_so_far-more plan service batches served)

-- ---- the last lines

pub last_text :
    (plan : Plan) (service : Service) (progress : Progress) (packets : ℕ) (batches : List Served) (ending : Ending)
    (done held text : List ℕ) →
    HasServed service progress batches → done ++ held ≡ lines_so_far plan service batches →
    text ≡ (held ++ flat_map session_line progress.pairs.items)
    ++ tail_lines (tail_with service packets progress.totals progress.leaves progress.depth ending) →
    done ++ text ≡ report_of (run_report plan service packets batches ending)
last_text plan service progress packets batches ending done held text has lines is =
    let totals : Totals = totals_of (outcomes_in batches) in
    let sessions : List ℕ = flat_map session_line progress.pairs.items in
    let tail : List ℕ = tail_lines (tail_with service packets progress.totals progress.leaves progress.depth ending) in
    let same : tail ≡ tail_lines (tail_of service packets batches ending) =
    ap (λ (t : Totals). tail_lines (tail_with service packets t progress.leaves progress.depth ending)) has.totals
    ∙ ap (λ (n : ℕ). tail_lines (tail_with service packets totals n progress.depth ending)) has.leaves
    ∙ ap (λ (n : ℕ). tail_lines (tail_with service packets totals (leaves_left service 0 batches) n ending))
    has.depth in
    ap (λ (t : List ℕ). done ++ t) (is ∙ append_assoc held sessions tail)
    ∙ sym (append_assoc done held (sessions ++ tail))
    ∙ ap (λ (t : List ℕ). t ++ (sessions ++ tail)) lines
    ∙ ap (λ (t : List ℕ). lines_so_far plan service batches ++ (sessions ++ t)) same
    ∙ ap (λ (pairs : List Pair). lines_so_far plan service batches
    ++ (flat_map session_line pairs ++ tail_lines (tail_of service packets batches ending))) has.pairs
    ∙ sym (report_of-run plan service packets batches ending)
