-- The entries of a row, by their words.
use Rattle.std.specs.Prelude.{◌≡◌, ℕ, ◌==◌, if◌then◌else◌, List, [], ◌∷◌, Option, Some, None}
use Rattle.word_rows.specs.ReplyWords.{reply_of_word, word_of_reply}
use Rattle.exchange_model.specs.Codes.{Entry, entry_in}
use Rattle.exchange_calls.specs.declared.marks.Mark.{Mark}

-- the first entry with this word
abbrev pub mark_of : (word : ℕ) → List Mark → Option Mark
mark_of word [] = None
mark_of word (mark ∷ marks) = if mark.word == word then Some mark else mark_of word marks

-- the words of the entries
abbrev pub mark_words : List Mark → List ℕ
mark_words [] = []
mark_words (mark ∷ marks) = mark.word ∷ mark.reply ∷ mark_words marks

-- what they tell
abbrev pub entries_of : List Mark → List Entry
entries_of [] = []
entries_of (mark ∷ marks) = entry_in mark.word mark.reply ∷ entries_of marks

-- the reply is spelled as replies are
pub record IsSpelled (mark : Mark) : Type 0 where
  pub is : word_of_reply (reply_of_word mark.reply) ≡ mark.reply
