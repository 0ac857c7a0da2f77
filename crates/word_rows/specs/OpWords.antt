-- How an announced op is spelled.
use Rattle.std.specs.Prelude.{◌≡◌, ℕ, ◌+◌, ◌*◌, ◌/◌, ◌%◌, ◌<◌, ◌≤◌, ◌==◌, if◌then◌else◌, List, [], ◌∷◌, ◌++◌, take, drop, slice_index}
use Rattle.plain_map.specs.declared.calls.Call.{Call}
use Rattle.plain_map.specs.declared.calls.Call.TheVariants.{Insert, Remove, Lookup, Tally, Count, Put}
use Rattle.word_rows.specs.declared.ops.OpRow.{OpRow}
use Rattle.word_rows.specs.declared.ops.TheConstants.{INSERT, REMOVE, TALLY, COUNT, PUT}
use Rattle.plain_map.specs.declared.keys.Key.{Key}
use Rattle.plain_map.specs.declared.keys.TheConstants.{KEY_WORDS}
use Rattle.plain_map.specs.Keys.{words_of_key, key_of_words}
use Rattle.plain_map.specs.Updates.{number_limit, IsUpdate}

-- an op that can be spelled
pub record IsOp (row : OpRow) : Type 0 where
  pub numbered : 1 ≤ row.number
  pub few : row.number < number_limit
  pub update : IsUpdate row.call

-- kind, key and value; a remove has value 0, a tally its amount, and a count its amount beside the kind
abbrev pub words_of_call : Call → List ℕ
words_of_call (Insert key value) = INSERT ∷ words_of_key key ++ value ∷ []
words_of_call (Remove key) = REMOVE ∷ words_of_key key ++ 0 ∷ []
words_of_call (Lookup key) = []
words_of_call (Tally key amount) = TALLY ∷ words_of_key key ++ amount ∷ []
words_of_call (Count key value amount) = (COUNT + 8 * amount) ∷ words_of_key key ++ value ∷ []
words_of_call (Put key value) = PUT ∷ words_of_key key ++ value ∷ []

-- the words of an op
abbrev pub words_of_op : OpRow → List ℕ
words_of_op row = row.number ∷ words_of_call row.call

-- the call of a kind with an amount, a key and a value
abbrev pub call_of_kind : (kind amount : ℕ) → Key → (value : ℕ) → Call
call_of_kind kind amount key value =
    if kind == INSERT then Insert key value else (
    if kind == TALLY then Tally key value else (
    if kind == COUNT then Count key value amount else (
    if kind == PUT then Put key value else Remove key)))

-- the call of the word of a kind, a key and a value
abbrev pub call_of_words : List ℕ → Call
call_of_words words =
    let key = key_of_words (take KEY_WORDS (drop 1 words)) in
    let value = slice_index words (KEY_WORDS + 1) in
    let word = slice_index words 0 in
    call_of_kind (word % 8) (word / 8) key value

-- the op that these words spell, where they spell one
abbrev pub op_of_words : List ℕ → OpRow
op_of_words words = record { number = slice_index words 0; call = call_of_words (drop 1 words) }

-- the words are the spelling of this op
abbrev pub SpellsOp : OpRow → List ℕ → Type 0
SpellsOp row words = IsOp row × (words ≡ words_of_op row)
