-- How many bytes the words of a table take.
use Rattle.std.specs.Prelude.{◌≡◌, ℕ, ◌*◌, ◌⊎◌, Some, replicate}
use Rattle.step_counts.specs.declared.settings.Settings.{Settings}
use Rattle.word_rows.specs.Places.{word_count}
use Rattle.flowdir_c.specs.declared.options.Options.{Options}
use Rattle.flowdir_c.specs.Asked.{AreOptions, rows_of}
use Rattle.flowdir_c.specs.Fit.{AreFit}
use Rattle.word_rows.specs.Shape.{record_limit}

-- a table of these options has so many words
abbrev pub AreWordsOf : Options → (words : ℕ) → Type 0
AreWordsOf options words =
    (settings : Settings) × (AreOptions options (Some settings) × (words ≡ word_count (record {
      settings = settings;
      ranges = replicate settings.seats (rows_of options.rows);
      limit = record_limit;
    })))

-- twice the words of the table, of eight bytes each, if the options fit, or 0
abbrev pub IsMemoryOf : Options → (bytes : ℕ) → Type 0
IsMemoryOf options bytes =
    (AreFit options × ((words : ℕ) × (AreWordsOf options words × (bytes ≡ 16 * words))))
    ⊎ ((AreFit options → ⊥) × (bytes ≡ 0))
