-- The items of a bucket row, word by word.
use Rattle.std.proofs.Common.{◌≡◌, ℕ, ◌+◌, ◌*◌, ◌<◌, List, take, drop, get_or, sym, ◌∙◌, arith}
use Rattle.std.proofs.lemmas.List.{get_or-take, get_or-drop}
use Rattle.plain_map.specs.declared.keys.Pair.{Pair}
use Rattle.word_rows.specs.Shape.{Shape}
use Rattle.word_rows.specs.Blocks.{block}
use Rattle.word_rows.specs.BucketWords.{item_part}
use Rattle.word_rows.specs.KeyWords.{pair_of_words}
use Rattle.table_model.specs.Reading.{bucket_spelling}
use Rattle.step_counts.specs.declared.TheConstants.{ITEM_WORDS}

-- the item at a place
abbrev pub item_of : Shape → List ℕ → (row i : ℕ) → Pair
item_of shape words row i =
    pair_of_words (block ITEM_WORDS i (item_part shape.settings (bucket_spelling shape words row)))

-- a word of a place within the room
pub item_word-inside : (part : List ℕ) (items i j : ℕ) → i < items → j < ITEM_WORDS →
    get_or part (5 + (i * ITEM_WORDS + j)) 0
    ≡ get_or (take ITEM_WORDS (drop (i * ITEM_WORDS) (take (ITEM_WORDS * items) (drop 5 part)))) j 0
item_word-inside part items i j within of_item =
    let inside : i * ITEM_WORDS + j < ITEM_WORDS * items = omega arith in
    sym (get_or-take ITEM_WORDS (drop (i * ITEM_WORDS) (take (ITEM_WORDS * items) (drop 5 part))) j 0 of_item
    ∙ get_or-drop (i * ITEM_WORDS) (take (ITEM_WORDS * items) (drop 5 part)) j 0
    ∙ get_or-take (ITEM_WORDS * items) (drop 5 part) (i * ITEM_WORDS + j) 0 inside
    ∙ get_or-drop 5 part (i * ITEM_WORDS + j) 0)
