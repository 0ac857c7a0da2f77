-- How the words of a table are spelled: bucket words, announcements, ops, hold words and rows.
use Rattle.std.specs.Prelude.{ℕ, zero, suc, ◌+◌, ◌-◌, ◌*◌, ◌/◌, ◌%◌, ◌^◌, ◌==◌, nat_lt, min, Bool, if◌then◌else◌, List, [], ◌∷◌, ◌++◌, length, map, take, drop, slice_index, Option}
use Rattle.std.specs.List.{range_with_len}
use Rattle.step_counts.specs.declared.TheConstants.{ITEM_WORDS, OP_WORDS}
use Rattle.plain_map.specs.declared.calls.Call.{Call}
use Rattle.plain_map.specs.declared.calls.Reply.{Reply}
use Rattle.plain_map.specs.declared.keys.Pair.{Pair}
use Rattle.plain_map.specs.declared.keys.TheConstants.{KEY_WORDS}
use Rattle.plain_map.specs.Updates.{value_limit}
use Rattle.word_rows.specs.OpWords.{call_of_words}
use Rattle.word_rows.specs.ReplyWords.{word_of_reply, reply_of_word}
use Rattle.word_rows.specs.KeyWords.{words_of_pair, pair_of_words}
use Rattle.exchange_model.specs.Plans.{Plan, born_row}

-- ---- bucket words

-- a bucket word: its generation, which rises by one at each exchange of this bucket, and its row. So no bucket word has
-- one value twice. Generations begin at 1, so no bucket word is small
abbrev pub tag : Plan → (generation row : ℕ) → ℕ
tag plan generation row = generation * 2 ^ plan.row_bits + row

-- the generation in a bucket word
abbrev pub generation_in : Plan → (word : ℕ) → ℕ
generation_in plan word = word / 2 ^ plan.row_bits

-- and the row
abbrev pub row_in : Plan → (word : ℕ) → ℕ
row_in plan word = word % 2 ^ plan.row_bits

-- the word that a bucket is opened with
abbrev pub FIRST_GENERATION : ℕ
FIRST_GENERATION = 1

abbrev pub born_word : Plan → (bucket : ℕ) → ℕ
born_word plan bucket = tag plan FIRST_GENERATION (born_row plan bucket)

-- the last generation that a word of 64 bits has room for
abbrev pub last_generation : Plan → ℕ
last_generation plan = 2 ^ (64 - plan.row_bits) - 1

-- a bucket with this word is spent: its word can be exchanged no more
abbrev pub is_spent : Plan → (word : ℕ) → Bool
is_spent plan word = generation_in plan word == last_generation plan

-- ---- announcements

-- the bits of an announcement for the class
abbrev pub CLASS_BITS : ℕ
CLASS_BITS = 20

-- an announcement: the number of the op, from 0 on, twice and one more, and the class of its key; when it is over, two
-- more. 0 where none was announced. So announcements of a seat rise
abbrev pub announcing : (number class : ℕ) → ℕ
announcing number class = (2 * number + 1) * 2 ^ CLASS_BITS + class

abbrev pub over : (number : ℕ) → ℕ
over number = (2 * number + 2) * 2 ^ CLASS_BITS

-- whether an op is announced
abbrev pub is_pending : (word : ℕ) → Bool
is_pending word = word / 2 ^ CLASS_BITS % 2 == 1

-- the number of the op
abbrev pub number_in : (word : ℕ) → ℕ
number_in word = word / 2 ^ CLASS_BITS / 2

-- and the class of its key, whose bucket is its leaf
abbrev pub class_in : (word : ℕ) → ℕ
class_in word = word % 2 ^ CLASS_BITS

-- ---- ops

-- the words of an op: each seat has one place for it. Kind, key and value
abbrev pub SLOT_WORDS : ℕ
SLOT_WORDS = OP_WORDS - 1

-- the call that these words of an op spell. They may be of several ops. A value that no update can have is cut
abbrev pub call_in : List ℕ → Call
call_in words =
    call_of_words (take (KEY_WORDS + 1) words ++ (slice_index words (KEY_WORDS + 1) % value_limit) ∷ [])

-- ---- hold words

-- a hold word: its owner asks for the so manieth time, or holds a row. 0 for nothing
abbrev pub asking : (time : ℕ) → ℕ
asking time = 2 * time + 1

abbrev pub holding : (row : ℕ) → ℕ
holding row = 2 * (row + 1)

-- whether a hold word asks
abbrev pub is_asking : (word : ℕ) → Bool
is_asking word = word % 2 == 1

-- for which time it asks
abbrev pub time_in : (word : ℕ) → ℕ
time_in word = word / 2

-- which row it holds, if it holds one
abbrev pub held_row : (word : ℕ) → ℕ
held_row word = word / 2 - 1

-- ---- a row: how many items and how many entries there are; the items; and the entries. What stands behind them says
-- nothing, and is neither stored nor loaded

-- an announced op that was applied while it was pending: whose it is, its number, and its reply
pub record Entry : Type 0 where
  pub seat : ℕ
  pub number : ℕ
  pub reply : Option Reply

-- what a row says
pub record Row : Type 0 where
  pub items : List Pair
  pub entries : List Entry

abbrev pub ENTRY_WORDS : ℕ
ENTRY_WORDS = 2

-- the bits of a head for the count of the items, as many for that of the entries, and those of an entry for the seat.
-- The other bits of a head are 0, and are passed over
abbrev pub COUNT_BITS : ℕ
COUNT_BITS = 8

abbrev pub SEAT_BITS : ℕ
SEAT_BITS = 6

-- the head of a row
abbrev pub head_word : (items entries : ℕ) → ℕ
head_word items entries = items + entries * 2 ^ COUNT_BITS

-- the words of an entry: whose it is with its number, and its reply
abbrev pub entry_words : Entry → List ℕ
entry_words entry = (entry.seat + entry.number * 2 ^ SEAT_BITS) ∷ word_of_reply entry.reply ∷ []

-- those of entries that stand one behind the other
abbrev pub all_entry_words : List Entry → List ℕ
all_entry_words [] = []
all_entry_words (entry ∷ entries) = entry_words entry ++ all_entry_words entries

-- the words of these pairs
abbrev pub pair_words : List Pair → List ℕ
pair_words [] = []
pair_words (pair ∷ pairs) = words_of_pair pair ++ pair_words pairs

-- all words of a row
abbrev pub row_words : Row → List ℕ
row_words row =
    head_word (length row.items) (length row.entries) ∷ (pair_words row.items ++ all_entry_words row.entries)

-- the counts as they are used: those that were disturbed are cut to what a row has room for
abbrev pub count_in : Plan → (head : ℕ) → ℕ
count_in plan head = min (head % 2 ^ COUNT_BITS) plan.settings.items

-- how many entries a head tells
abbrev pub entries_in : Plan → (head : ℕ) → ℕ
entries_in plan head = min (head / 2 ^ COUNT_BITS % 2 ^ COUNT_BITS) plan.settings.seats

-- the place of the first entry
abbrev pub entries_start : (count : ℕ) → ℕ
entries_start count = 1 + ITEM_WORDS * count

-- how many words of a row say something, by those of its head
abbrev pub row_length : (items entries : ℕ) → ℕ
row_length items entries = entries_start items + ENTRY_WORDS * entries

-- how many words are to be loaded, by those that were: the head, and what it tells
abbrev pub length_by : Plan → List ℕ → ℕ
length_by plan words =
    row_length (count_in plan (slice_index words 0)) (entries_in plan (slice_index words 0))

-- the entry of two words
abbrev pub entry_in : (word reply : ℕ) → Entry
entry_in word reply = record {
  seat = word % 2 ^ SEAT_BITS;
  number = word / 2 ^ SEAT_BITS;
  reply = reply_of_word reply;
}

-- so many entries, as these words tell them
abbrev pub entries_of_words : (many : ℕ) → List ℕ → List Entry
entries_of_words zero words = []
entries_of_words (suc many) words =
    entry_in (slice_index words 0) (slice_index words 1) ∷ entries_of_words many (drop 2 words)

-- and so many pairs of their words
abbrev pub pairs_of_words : (many : ℕ) → List ℕ → List Pair
pairs_of_words zero words = []
pairs_of_words (suc many) words = pair_of_words (take ITEM_WORDS words) ∷ pairs_of_words many (drop ITEM_WORDS words)

-- the row that these words spell
abbrev pub row_of_words : Plan → List ℕ → Row
row_of_words plan words =
    let head = slice_index words 0 in record {
      items = pairs_of_words (count_in plan head) (drop 1 words);
      entries = entries_of_words (entries_in plan head) (drop (entries_start (count_in plan head)) words);
    }

-- the first words of a row
abbrev pub words_at : (many : ℕ) → (row : ℕ → ℕ) → List ℕ
words_at many row = map row (range_with_len 0 many)

-- what a row says
abbrev pub row_at : Plan → (row : ℕ → ℕ) → Row
row_at plan row = row_of_words plan (words_at (row_length (count_in plan (row 0)) (entries_in plan (row 0))) row)

-- ---- an item, as a lookup and a copy load it: the last word of its key first, which has the ports and so tells most
-- keys apart

-- the place in an item of the word that is loaded as the so manieth
abbrev pub loaded_place : (i : ℕ) → ℕ
loaded_place i = if i == 0 then KEY_WORDS - 1 else (if nat_lt i KEY_WORDS then i - 1 else i)

-- its place in the row
abbrev pub item_place : (item i : ℕ) → ℕ
item_place item i = 1 + (ITEM_WORDS * item + loaded_place i)

-- the pair that the words of an item spell, in the order in which they are loaded
abbrev pub pair_in : List ℕ → Pair
pair_in words = record {
  key = record {
    k0 = slice_index words 1;
    k1 = slice_index words 2;
    k2 = slice_index words 3;
    k3 = slice_index words 4;
    k4 = slice_index words 0;
  };
  value = slice_index words 5;
  bytes = slice_index words 6;
}

-- the pair that stands as the so manieth item of a row
abbrev pub pair_at : (row : ℕ → ℕ) → (item : ℕ) → Pair
pair_at row item = record {
  key = record {
    k0 = row (item_place item 1);
    k1 = row (item_place item 2);
    k2 = row (item_place item 3);
    k3 = row (item_place item 4);
    k4 = row (item_place item 0);
  };
  value = row (item_place item 5);
  bytes = row (item_place item 6);
}

-- all pairs of a row
abbrev pub pairs_of_row : Plan → (row : ℕ → ℕ) → List Pair
pairs_of_row plan row = map (pair_at row) (range_with_len 0 (count_in plan (row 0)))
