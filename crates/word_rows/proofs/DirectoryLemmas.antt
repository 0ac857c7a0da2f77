-- Bases and directory rows: what is spelled is read, and what is read is spelled.
use Rattle.std.proofs.Common.{◌≡◌, ℕ, zero, suc, ◌+◌, ◌^◌, ◌<◌, ◌≤◌, List, [], ◌∷◌, length, get_or, refl, ap, sym, arith, Option, Some, None}
use Rattle.std.proofs.Math.Nat.{one-le-pow}
use Rattle.step_counts.specs.declared.settings.Settings.{Settings}
use Rattle.plain_map.specs.Rows.{DirectoryContent}
use Rattle.word_rows.specs.BaseWords.{IsBase, word_of_base, base_of_word}
use Rattle.word_rows.specs.DirectoryWords.{words_of_directory, directory_of_words, SpellsDirectory}

-- a base's word spells it
pub base_read : (base : Option ℕ) → base_of_word (word_of_base base) ≡ base
base_read None = refl
base_read (Some row) = grind arith

-- the base that a word spells has this word
pub base_spelled : (word : ℕ) → word_of_base (base_of_word word) ≡ word
base_spelled zero = refl
base_spelled (suc word) = grind arith

-- a word spells a base that has a word
pub base_fits : (word : ℕ) → word < 2 ^ 64 → IsBase (base_of_word word)
base_fits zero h = tt
base_fits (suc word) h = grind arith

-- a directory row's words spell it
pub directory_read : (row : DirectoryContent) → directory_of_words (words_of_directory row) ≡ row
directory_read row = ap (λ (base : Option ℕ). record { depth = row.depth; base = base; entries = row.entries })
    (base_read row.base)

-- words with as many entries as their depth says spell a directory row
pub directory_spelled : (settings : Settings) (words : List ℕ) → get_or words 0 0 ≤ settings.depth →
    length words ≡ 2 + 2 ^ get_or words 0 0 → get_or words 1 0 < 2 ^ 64 →
    SpellsDirectory settings (directory_of_words words) words
directory_spelled settings [] deep long fits = absurd (omega arith)
directory_spelled settings (depth ∷ []) deep long fits = absurd (omega (arith, one-le-pow depth 2 (omega arith)))
directory_spelled settings (depth ∷ base ∷ entries) deep long fits = (
  record { depth = deep; base = base_fits base fits; entries = omega arith },
  ap (λ (word : ℕ). depth ∷ word ∷ entries) (sym (base_spelled base)),
)
