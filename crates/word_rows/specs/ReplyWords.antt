-- How the reply to an update is spelled: in one word, its kind and 8 times the value that it carries.
use Rattle.std.specs.Prelude.{ℕ, ◌+◌, ◌*◌, ◌/◌, ◌%◌, ◌==◌, if◌then◌else◌, Option, Some, None}
use Rattle.plain_map.specs.declared.calls.Reply.{Reply}
use Rattle.plain_map.specs.declared.calls.Reply.TheVariants.{New, Old, NoRoom, Gone, Found, Absent, Sum}
use Rattle.word_rows.specs.declared.replies.TheConstants.{NEW, OLD, NO_ROOM, GONE, ABSENT, SUM}

-- the word of a reply, 0 for none
abbrev pub word_of_reply : Option Reply → ℕ
word_of_reply None = 0
word_of_reply (Some New) = NEW
word_of_reply (Some (Old value)) = OLD + 8 * value
word_of_reply (Some NoRoom) = NO_ROOM
word_of_reply (Some (Gone value)) = GONE + 8 * value
word_of_reply (Some (Found value)) = 0
word_of_reply (Some Absent) = ABSENT
word_of_reply (Some (Sum total)) = SUM + 8 * total

-- the reply of a kind with a value
abbrev pub reply_of_kind : (kind value : ℕ) → Option Reply
reply_of_kind kind value =
    if kind == NEW then Some New else
    (if kind == OLD then Some (Old value) else
    (if kind == NO_ROOM then Some NoRoom else
    (if kind == GONE then Some (Gone value) else
    (if kind == ABSENT then Some Absent else
    (if kind == SUM then Some (Sum value) else None)))))

-- the reply that a word spells, where it spells one
abbrev pub reply_of_word : ℕ → Option Reply
reply_of_word word = reply_of_kind (word % 8) (word / 8)
