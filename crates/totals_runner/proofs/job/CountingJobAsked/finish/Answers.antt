-- The last lines make the report whole.
use Rattle.std.proofs.Common.{◌≡◌, ◌++◌, ℕ, List, ap, ◌∙◌}
use Rattle.sim_steps.specs.Program.{step_bound}
use Rattle.capture_faults.specs.declared.ending.Ending.{Ending}
use Rattle.totals_runner.specs.Adds.{totals_tail}
use Rattle.totals_runner.specs.declared.counting.Asked.{Asked}
use Rattle.totals_runner.specs.declared.counting.Counting.{Counting}
use Rattle.totals_runner.specs.JobLaws.{ends_report, tail_of}
use Rattle.totals_runner.specs.Told.{IsCountedSo, IsTotalsReport}
use Rattle.totals_runner.proofs.JobLemmas.{follows}
use Rattle.totals_runner.proofs.job.CountingJobAsked.finish.Goals as goal

-- the last lines, by the seats of the job
ended : (job : Counting) (ending : Ending) (old new : List ℕ) (bound : ℕ) → bound ≡ step_bound job.seats →
    new ≡ old ++ totals_tail (record { totals = job.totals; ending = ending; most = job.most; bound = bound }) →
    (asked : Asked) (batches : List (List (List ℕ))) (put : List ℕ) → IsCountedSo job asked batches put →
    (rest : List ℕ) × (new ≡ old ++ rest) × IsTotalsReport asked batches ending (put ++ rest)
ended job ending old new bound bound_is is asked batches put so = (
  totals_tail (tail_of job asked.seats ending),
  is ∙ ap (λ (b : ℕ). old ++ totals_tail (record {
    totals = job.totals;
    ending = ending;
    most = job.most;
    bound = b;
  })) (bound_is ∙ ap step_bound so.as_many),
  ends_report job asked batches put ending so,
)

pub returns : goal.returns
returns c =
    follows c.totals_tail_text.result c.totals_tail_text.ensures.appended
    (λ is. ended c.args.self.now c.args.ending.now c.args.text.now.items c.totals_tail_text.new.out.items
    c.step_bound.result (c.step_bound.ensures ∙ ap step_bound c.from.ensures) is)
