-- How a key, and a pair of a key and a value, are spelled.
use Rattle.std.specs.Prelude.{ℕ, ◌+◌, List, [], ◌∷◌, ◌++◌, take, slice_index}
use Rattle.plain_map.specs.declared.keys.Pair.{Pair}
use Rattle.plain_map.specs.declared.keys.TheConstants.{KEY_WORDS}
use Rattle.plain_map.specs.Keys.{words_of_key, key_of_words}

-- the words of an item: its key, its value and its bytes
abbrev pub words_of_pair : Pair → List ℕ
words_of_pair pair = words_of_key pair.key ++ pair.value ∷ pair.bytes ∷ []

-- the item that these words spell
abbrev pub pair_of_words : List ℕ → Pair
pair_of_words words = record {
  key = key_of_words (take KEY_WORDS words);
  value = slice_index words KEY_WORDS;
  bytes = slice_index words (KEY_WORDS + 1);
}
