-- How a directory row is spelled. It has as many words as its depth says, and may have room for more.
use Rattle.std.specs.Prelude.{◌≡◌, ℕ, ◌^◌, ◌≤◌, List, ◌∷◌, length, drop, slice_index}
use Rattle.step_counts.specs.declared.TheConstants.{DIRECTORY_HEAD_WORDS}
use Rattle.step_counts.specs.declared.settings.Settings.{Settings}
use Rattle.plain_map.specs.Rows.{DirectoryContent}
use Rattle.word_rows.specs.BaseWords.{IsBase, word_of_base, base_of_word}

-- a directory row that can be spelled
pub record IsDirectory (settings : Settings) (row : DirectoryContent) : Type 0 where
  pub depth : row.depth ≤ settings.depth
  pub base : IsBase row.base
  pub entries : length row.entries ≡ 2 ^ row.depth

-- depth, base and entries
abbrev pub words_of_directory : DirectoryContent → List ℕ
words_of_directory row = row.depth ∷ word_of_base row.base ∷ row.entries

-- the directory row that these words spell, where they spell one
abbrev pub directory_of_words : List ℕ → DirectoryContent
directory_of_words words = record {
  depth = slice_index words 0;
  base = base_of_word (slice_index words 1);
  entries = drop DIRECTORY_HEAD_WORDS words;
}

-- the words are the spelling of this directory row
abbrev pub SpellsDirectory : Settings → DirectoryContent → List ℕ → Type 0
SpellsDirectory settings row words = IsDirectory settings row × (words ≡ words_of_directory row)

-- they are that of some directory row
abbrev pub SpellSomeDirectory : Settings → List ℕ → Type 0
SpellSomeDirectory settings words = (row : DirectoryContent) × SpellsDirectory settings row words
