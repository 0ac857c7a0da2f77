-- The answered calls that were read.
use Rattle.std.specs.Prelude.{◌≡◌, ℕ, ◌<◌, List, [], length, slice_index}
use Rattle.report_told.specs.Told.{Entry}
use Rattle.report_told.specs.Points.{answers_of, records_behind}
use Rattle.report_reading.specs.declared.answers.Answers.{Answers}

-- these are the answered calls of the entries, and counted by seat
pub record AreAnswers (kept : Answers) (entries : List Entry) : Type 0 where
  pub calls : kept.calls.items ≡ records_behind [] entries
  pub counts : (seat : ℕ) → seat < 8 → slice_index kept.counts seat ≡ answers_of seat entries
  pub long : length kept.counts ≡ 8
