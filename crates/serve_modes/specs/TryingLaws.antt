-- What holds of the text of a trial: there is none before the end, and the three lines can follow.
use Rattle.std.proofs.Common.{ℕ, List, ◌++◌, ap}
use Rattle.capture_faults.specs.declared.ending.Ending.{Ending}
use Rattle.report_text.specs.Trials.{trial_lines}
use Rattle.command_line.specs.declared.plan.Plan.{Plan}
use Rattle.serve_modes.specs.declared.trying.Trying.{Trying}
use Rattle.serve_modes.specs.Headline.{tried_of}
use Rattle.serve_modes.specs.Trying.{HasTried, IsNoText, IsTrialOf}

-- nothing was put
pub tried_none : (job : Trying) (plan : Plan) (batches : List (List (List ℕ))) (put : List ℕ) →
    HasTried job plan batches put → IsNoText plan batches put
tried_none job plan batches put tried = tried.none

-- and the three lines can follow, whatever the ending
pub tried_begins : (job : Trying) (plan : Plan) (batches : List (List (List ℕ))) (put : List ℕ) (ending : Ending) →
    HasTried job plan batches put → (rest : List ℕ) × IsTrialOf plan batches ending (put ++ rest)
tried_begins job plan batches put ending tried =
    let done = tried.done in
    let rest : List ℕ = trial_lines (tried_of plan done.served) in (
      rest,
      (
        job.serving.service,
        done.served,
        record { asks = done.asks; each = done.has.served; of = done.of },
        ap (λ (t : List ℕ). t ++ rest) tried.none,
      ),
    )
