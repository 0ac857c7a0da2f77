-- Where the parts of a table begin, and how long its rows are.
use Rattle.std.specs.Prelude.{◌≡◌, ℕ, ◌^◌, ◌<◌}
use Rattle.step_counts.specs.StepCounts.{bucket_row_words, directory_row_words}
use Rattle.word_rows.specs.Shape.{Shape}
use Rattle.word_rows.specs.Places.{bucket_words_start, bucket_rows_start, directory_rows_start, word_count}

-- these are the first words of the parts, and word numbers are small
pub record HasStarts (shape : Shape) (bucket_words bucket_rows directory_rows : ℕ) : Type 0 where
  pub words : bucket_words ≡ bucket_words_start shape
  pub rows : bucket_rows ≡ bucket_rows_start shape
  pub directories : directory_rows ≡ directory_rows_start shape
  pub few : word_count shape < 2 ^ 52

-- these are how many words the rows have
pub record HasWidths (shape : Shape) (row_words room_words : ℕ) : Type 0 where
  pub row : row_words ≡ bucket_row_words shape.settings
  pub room : room_words ≡ directory_row_words shape.settings
  pub short_row : row_words < 2 ^ 13
  pub short_room : room_words < 2 ^ 13
