-- How many bytes a table takes.
use Rattle.std.specs.Prelude.{ℕ, ◌+◌, ◌*◌}
use Rattle.step_counts.specs.declared.TheConstants.{ITEM_WORDS}
use Rattle.exchange_model.specs.Plans.{Plan, MOST_ITEMS, MOST_SEATS}
use Rattle.exchange_model.specs.Codes.{ENTRY_WORDS}
use Rattle.exchange_model.specs.Words.{word_count}

-- a word of 64 bits
abbrev pub WORD_BYTES : ℕ
WORD_BYTES = 8

-- the words of what a seat has at hand: the items of a row that was loaded, its entries, and those of the row that is
-- made of it
abbrev pub HAND_WORDS : ℕ
HAND_WORDS = MOST_ITEMS * ITEM_WORDS + 2 * (MOST_SEATS * ENTRY_WORDS)

-- the words of a seat's two lists of rows, each of which has room for all of its rows
abbrev pub row_list_words : Plan → ℕ
row_list_words plan = 2 * plan.spare

-- the bytes that a table takes as long as it is open: its words, and what each seat has for itself
abbrev pub bytes_kept : Plan → ℕ
bytes_kept plan =
    WORD_BYTES * (word_count plan + plan.settings.seats * (HAND_WORDS + row_list_words plan))

-- the bytes that it takes beside them while it is opened: its words, until they are copied
abbrev pub bytes_passing : Plan → ℕ
bytes_passing plan = WORD_BYTES * word_count plan
