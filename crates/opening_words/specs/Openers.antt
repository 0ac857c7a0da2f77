-- What an opener has room for, and what it has written.
use Rattle.std.specs.Prelude.{◌≡◌, ℕ, List, length}
use Rattle.step_counts.specs.declared.settings.Settings.{Settings}
use Rattle.word_rows.specs.Shape.{Shape}
use Rattle.word_rows.specs.Places.{word_count}
use Rattle.dir_states.specs.Openings.{first_directory, first_leaves}
use Rattle.opening_words.specs.declared.opener.Opener.{Opener}
use Rattle.opening_words.specs.Written.{FitIn, words_with}

-- the settings that it has room for
abbrev pub settings_in : Opener → Settings
settings_in opener = opener.settings

-- these are all words of a table of the shape, as the opening that it has made last writes them
pub record HasWritten (shape : Shape) (opener : Opener) (words : List ℕ) : Type 0 where
  pub fit : FitIn shape (first_leaves opener.made) (first_directory opener.made)
  pub are : words ≡ words_with shape (first_leaves opener.made) (first_directory opener.made)
  pub long : length words ≡ word_count shape
