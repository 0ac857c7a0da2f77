-- How the words of a lasting table are spelled: bucket words, announcements, ops, hold words and rows.
use Rattle.std.specs.Prelude.{ℕ, ◌+◌, ◌-◌, ◌*◌, ◌/◌, ◌%◌, ◌^◌, ◌==◌, nat_lt, min, Bool, false, if◌then◌else◌, List, [], ◌∷◌, ◌++◌, length, map, take, drop, slice_index}
use Rattle.std.specs.List.{range_with_len}
use Rattle.step_counts.specs.declared.TheConstants.{ITEM_WORDS, SEAT_WORDS, OP_WORDS}
use Rattle.plain_map.specs.declared.calls.Call.{Call}
use Rattle.plain_map.specs.declared.keys.Pair.{Pair}
use Rattle.plain_map.specs.declared.keys.TheConstants.{KEY_WORDS}
use Rattle.plain_map.specs.Updates.{value_limit}
use Rattle.word_rows.specs.OpWords.{call_of_words}
use Rattle.word_rows.specs.BucketWords.{item_words, seat_words, items_of_words, applied_of_words, replies_of_words}
use Rattle.bucket_states.specs.States.{BucketState}
use Rattle.table_model.specs.Setup.{Setup, settings_of, seats_of}

-- ---- bucket words

-- a bucket word: the generation of its row, and where the row stands. A row's generation rises each time that it is
-- published, so no bucket word has one value twice
abbrev pub tag : (generation row : ℕ) → ℕ
tag generation row = generation * 2 ^ 17 + row

-- the generation in a bucket word
abbrev pub generation_in : (word : ℕ) → ℕ
generation_in word = word / 2 ^ 17

-- and the row
abbrev pub row_in : (word : ℕ) → ℕ
row_in word = word % 2 ^ 17

-- ---- announcements

-- an announcement: the number of the update, and the class of its key. 0 for none: numbers begin with 1
abbrev pub announcing : (number class : ℕ) → ℕ
announcing number class = number * 2 ^ 15 + class

-- the number in an announcement
abbrev pub update_in : (word : ℕ) → ℕ
update_in word = word / 2 ^ 15

-- and the class
abbrev pub class_in : (word : ℕ) → ℕ
class_in word = word % 2 ^ 15

-- ---- ops

-- the words of an op: each seat has one place for it. The number is in the announcement alone, so kind, key and value
-- are left
abbrev pub SLOT_WORDS : ℕ
SLOT_WORDS = OP_WORDS - 1

-- the call that these words of an op spell. They may be of several ops. A value that no update can have is cut
abbrev pub call_in : List ℕ → Call
call_in words =
    call_of_words (take (KEY_WORDS + 1) words ++ (slice_index words (KEY_WORDS + 1) % value_limit) ∷ [])

-- ---- hold words

-- a hold word: the seat asks for the so manieth time, or holds a row. 0 for nothing
abbrev pub asking : (time : ℕ) → ℕ
asking time = 2 * time + 1

abbrev pub holding : (row : ℕ) → ℕ
holding row = 2 * (row + 1)

-- whether a hold word asks
abbrev pub is_asking : (word : ℕ) → Bool
is_asking word = word % 2 == 1

-- for which time it asks
abbrev pub time_in : (word : ℕ) → ℕ
time_in word = word / 2

-- which row it holds, if it holds one
abbrev pub held_row : (word : ℕ) → ℕ
held_row word = word / 2 - 1

-- ---- a row: its generation; for each seat the number of its last update in here and the reply; how many items there
-- are; and the items. What stands behind them says nothing, and is neither stored nor loaded. Prefix, depth, mark and
-- base are known, and stand nowhere

-- the place of the generation
abbrev pub GENERATION_PLACE : ℕ
GENERATION_PLACE = 0

-- the place of a seat's number, and of its reply
abbrev pub number_place : (seat : ℕ) → ℕ
number_place seat = 1 + SEAT_WORDS * seat

abbrev pub reply_place : (seat : ℕ) → ℕ
reply_place seat = 2 + SEAT_WORDS * seat

-- the place of the count
abbrev pub count_place : Setup → ℕ
count_place setup = 1 + SEAT_WORDS * seats_of setup

-- the place of the first item
abbrev pub items_start : Setup → ℕ
items_start setup = 2 + SEAT_WORDS * seats_of setup

-- how many words of a row say something
abbrev pub row_length : Setup → (count : ℕ) → ℕ
row_length setup count = items_start setup + ITEM_WORDS * count

-- the words of a bucket, behind the generation
abbrev pub state_words : Setup → BucketState → List ℕ
state_words setup state =
    seat_words (seats_of setup) state.applied state.replies
    ++ length state.items ∷ item_words (length state.items) state.items

-- all words of its row
abbrev pub row_words : Setup → (generation : ℕ) → BucketState → List ℕ
row_words setup generation state = generation ∷ state_words setup state

-- a count as it is used: one that was disturbed is cut to the room of a bucket
abbrev pub count_in : Setup → (word : ℕ) → ℕ
count_in setup word = min word (settings_of setup).items

-- how many words behind the generation are to be loaded, by those that were: those of the seats and the count, and then
-- the items
abbrev pub length_by : Setup → List ℕ → ℕ
length_by setup words =
    SEAT_WORDS * seats_of setup + 1
    + (if nat_lt (SEAT_WORDS * seats_of setup) (length words)
    then ITEM_WORDS * count_in setup (slice_index words (SEAT_WORDS * seats_of setup)) else 0)

-- the words of the seats among those behind the generation, and those of the items
abbrev pub seats_part : Setup → List ℕ → List ℕ
seats_part setup words = take (SEAT_WORDS * seats_of setup) words

abbrev pub items_part : Setup → List ℕ → List ℕ
items_part setup words = drop (SEAT_WORDS * seats_of setup + 1) words

-- the bucket with this number that these words behind a generation spell
abbrev pub state_in : Setup → (bucket : ℕ) → List ℕ → BucketState
state_in setup bucket words = record {
  prefix = bucket;
  depth = (settings_of setup).depth;
  frozen = false;
  items =
      items_of_words (count_in setup (slice_index words (SEAT_WORDS * seats_of setup))) (items_part setup words);
  applied = applied_of_words (seats_of setup) (seats_part setup words);
  replies = replies_of_words (seats_of setup) (seats_part setup words);
}

-- ---- an item, as a lookup and a copy load it: the last word of its key first, which has the ports and so tells most
-- keys apart

-- the place in an item of the word that is loaded as the so manieth
abbrev pub loaded_place : (i : ℕ) → ℕ
loaded_place i = if i == 0 then KEY_WORDS - 1 else (if nat_lt i KEY_WORDS then i - 1 else i)

-- its place in the row
abbrev pub item_place : Setup → (item i : ℕ) → ℕ
item_place setup item i = items_start setup + (ITEM_WORDS * item + loaded_place i)

-- the pair that the words of an item spell, in the order in which they are loaded
abbrev pub pair_in : List ℕ → Pair
pair_in words = record {
  key = record {
    k0 = slice_index words 1;
    k1 = slice_index words 2;
    k2 = slice_index words 3;
    k3 = slice_index words 4;
    k4 = slice_index words 0;
  };
  value = slice_index words 5;
  bytes = slice_index words 6;
}

-- the pair that stands as the so manieth item of a row
abbrev pub pair_at : Setup → (row : ℕ → ℕ) → (item : ℕ) → Pair
pair_at setup row item = record {
  key = record {
    k0 = row (item_place setup item 1);
    k1 = row (item_place setup item 2);
    k2 = row (item_place setup item 3);
    k3 = row (item_place setup item 4);
    k4 = row (item_place setup item 0);
  };
  value = row (item_place setup item 5);
  bytes = row (item_place setup item 6);
}

-- all pairs of a row
abbrev pub pairs_of_row : Setup → (row : ℕ → ℕ) → List Pair
pairs_of_row setup row = map (pair_at setup row) (range_with_len 0 (count_in setup (row (count_place setup))))
