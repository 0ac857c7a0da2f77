-- What is told is the trial of the batches that were served.
use Rattle.std.proofs.Common.{◌≡◌, ◌++◌, List, ℕ, length, ap, ◌∙◌}
use Rattle.plain_map.specs.declared.keys.Pair.{Pair}
use Rattle.report_text.specs.declared.trial.Trial.{Trial}
use Rattle.report_text.specs.Trials.{trial_lines}
use Rattle.batch_runner.specs.declared.totals.Totals.{Totals}
use Rattle.batch_runner.specs.Totals.{totals_of}
use Rattle.batch_runner.specs.Printed.{outcomes_in}
use Rattle.serve_modes.specs.declared.serving.Serving.{Serving}
use Rattle.serve_modes.specs.Headline.{trial_of, tried_of}
use Rattle.mode_parts.proofs.PileLemmas.{OnOk-weaker}
use Rattle.serve_modes.proofs.trying.TryingJobPlan.finish.Goals as goal

pub returns : goal.returns
returns c = OnOk-weaker c.trial_text.result (λ appended plan batches put tried.
    let job : Serving = c.args.self.now.serving in
    let done = tried.done in
    let lines : List ℕ = trial_lines (tried_of plan done.served) in
    let told : c.trial.result ≡ tried_of plan done.served =
    c.trial.ensures plan done.asks tried.number tried.packets tried.batch
    ∙ ap (λ (t : Totals). trial_of plan t (length job.progress.pairs.items)) done.has.totals
    ∙ ap (λ (pairs : List Pair). trial_of plan (totals_of (outcomes_in done.served)) (length pairs)) done.has.pairs in (
      lines,
      appended ∙ ap (λ (t : Trial). c.args.text.now.items ++ trial_lines t) told,
      (
        job.service,
        done.served,
        record { asks = done.asks; each = done.has.served; of = done.of },
        ap (λ (t : List ℕ). t ++ lines) tried.none,
      ),
    ))
    c.trial_text.ensures.appended
