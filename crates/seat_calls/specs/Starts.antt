-- Where the rows of a table begin.
use Rattle.std.specs.Prelude.{◌≡◌, ℕ, ◌^◌, ◌<◌}
use Rattle.step_counts.specs.StepCounts.{bucket_row_words, directory_row_words}
use Rattle.word_rows.specs.Shape.{Shape}
use Rattle.word_rows.specs.Places.{bucket_rows_start, directory_rows_start, word_count}

-- these are how many words each row has and the first words of the rows, and word numbers are small
pub record HasStarts (shape : Shape) (row_words bucket_rows room_words directory_rows : ℕ) : Type 0 where
  pub row : row_words ≡ bucket_row_words shape.settings
  pub bucket : bucket_rows ≡ bucket_rows_start shape
  pub room : room_words ≡ directory_row_words shape.settings
  pub directory : directory_rows ≡ directory_rows_start shape
  pub few : word_count shape < 2 ^ 52
