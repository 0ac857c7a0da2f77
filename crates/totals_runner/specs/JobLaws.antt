-- What holds of a job that counts: the text of it is that of its lines, and goes on to a report.
use Rattle.std.proofs.Common.{◌≡◌, ℕ, List, ◌++◌, ap, subst, ◌∙◌, append_assoc}
use Rattle.std.specs.Prelude.{flat_map}
use Rattle.sim_steps.specs.Program.{step_bound}
use Rattle.totals_runner.specs.declared.adds.TotalsTail.{TotalsTail}
use Rattle.capture_faults.specs.declared.ending.Ending.{Ending}
use Rattle.totals_runner.specs.Adds.{add_batch_lines, totals_head, totals_report, totals_tail}
use Rattle.totals_runner.specs.declared.counting.Asked.{Asked}
use Rattle.totals_runner.specs.declared.counting.Counting.{Counting}
use Rattle.totals_runner.specs.Counted.{AreCounted}
use Rattle.totals_runner.specs.Printed.{all_lines, answers_on, most_steps}
use Rattle.batch_history.specs.Batches.{no_counts}
use Rattle.totals_runner.specs.Right.{nothing}
use Rattle.totals_runner.specs.Told.{AreCountedOf, IsCountedSo, IsTotalsLines, IsTotalsReport}

-- what was counted is right
counted_of : (job : Counting) (asked : Asked) (batches : List (List (List ℕ))) (put : List ℕ) →
    (so : IsCountedSo job asked batches put) → AreCountedOf asked batches so.counted
counted_of job asked batches put so =
    record {
      of = so.of;
      counted = subst (λ (n : ℕ). AreCounted n nothing so.counted) so.as_many so.kept.counted;
      right = so.right;
    }

-- the texts of a job are those of its lines, and go on to a report
pub told_lines : (job : Counting) (asked : Asked) (batches : List (List (List ℕ))) (put : List ℕ) →
    IsCountedSo job asked batches put → IsTotalsLines asked batches put
told_lines job asked batches put so = (
  so.counted,
  counted_of job asked batches put so,
  so.text_is,
)

-- what the last lines tell
abbrev pub tail_of : Counting → ℕ → Ending → TotalsTail
tail_of job seats ending = record {
  totals = job.totals;
  ending = ending;
  most = job.most;
  bound = step_bound seats;
}

pub ends_report : (job : Counting) (asked : Asked) (batches : List (List (List ℕ))) (put : List ℕ) (ending : Ending) →
    IsCountedSo job asked batches put →
    IsTotalsReport asked batches ending (put ++ totals_tail (tail_of job asked.seats ending))
unfolding totals_report
ends_report job asked batches put ending so =
    let lines : List ℕ = flat_map (add_batch_lines asked.seats) (all_lines asked.seats no_counts so.counted) in
    let most : job.most ≡ most_steps (answers_on asked.seats no_counts so.counted) =
    so.kept.most ∙ ap (λ (n : ℕ). most_steps (answers_on n no_counts so.counted)) so.as_many in (
      so.counted,
      counted_of job asked batches put so,
      ap (λ (t : List ℕ). t ++ totals_tail (tail_of job asked.seats ending)) so.text_is
          ∙ append_assoc (totals_head asked.seats asked.batch) lines (totals_tail (tail_of job asked.seats ending))
          ∙ (λ i. totals_head asked.seats asked.batch ++ (lines ++ totals_tail (record {
            totals = so.kept.totals i;
            ending = ending;
            most = most i;
            bound = step_bound asked.seats;
          }))),
    )

pub begins_report : (job : Counting) (asked : Asked) (batches : List (List (List ℕ))) (put : List ℕ) (ending : Ending) →
    IsCountedSo job asked batches put → (rest : List ℕ) × IsTotalsReport asked batches ending (put ++ rest)
begins_report job asked batches put ending so =
    (totals_tail (tail_of job asked.seats ending), ends_report job asked batches put ending so)
