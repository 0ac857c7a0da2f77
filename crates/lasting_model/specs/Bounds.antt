-- The most atomic steps that a call of a lasting table takes. An atomic step is one load, one store or one
-- compare-and-exchange of one word. A number is the most that a table of these settings takes.
use Rattle.std.specs.Prelude.{ℕ, ◌+◌, ◌-◌, ◌*◌}
use Rattle.step_counts.specs.declared.TheConstants.{ITEM_WORDS, SEAT_WORDS}
use Rattle.step_counts.specs.declared.settings.Settings.{Settings}
use Rattle.lasting_model.specs.Plans.{PIECE}
use Rattle.lasting_model.specs.Codes.{SLOT_WORDS}

-- the words of a row with so many items: the generation, the words of the seats, the count and the items
abbrev pub row_steps : Settings → (count : ℕ) → ℕ
row_steps s count = 2 + SEAT_WORDS * s.seats + ITEM_WORDS * count

-- a piece of a sweep: the words of three buckets; and of each other seat the hold word, the wanted bucket, its word,
-- and the exchange that gives it a row
abbrev pub piece_steps : Settings → ℕ
piece_steps s = PIECE + 4 * (s.seats - 1)

-- the announced ops: of each other seat the announcement and the op
abbrev pub announcement_steps : Settings → ℕ
announcement_steps s = (1 + SLOT_WORDS) * (s.seats - 1)

-- a try that finds so many items in the bucket and leaves so many there: the bucket word, the row, whose generation
-- comes last, the announced ops, the new row, and the exchange
abbrev pub try_steps : Settings → (found left : ℕ) → ℕ
try_steps s found left = 1 + row_steps s found + announcement_steps s + row_steps s left + 1

-- a held look of an update: the wanted bucket, the asking, the bucket word, the hold, and its own number and reply in
-- that row
abbrev pub held_reply_steps : ℕ
held_reply_steps = 4 + 2

-- a whole update: a piece of a sweep, its op and its announcement, two tries, and a held look
abbrev pub update_bound : Settings → ℕ
update_bound s = piece_steps s + (SLOT_WORDS + 1) + 2 * try_steps s s.items s.items + held_reply_steps

-- the count and the items of a row with so many
abbrev pub glance_steps : (count : ℕ) → ℕ
glance_steps count = 1 + ITEM_WORDS * count

-- a whole lookup, or a copy of a bucket, by a seat: two glances, each between the bucket word and the generation of the
-- row, and a held one
abbrev pub look_bound : Settings → ℕ
look_bound s = 2 * (1 + glance_steps s.items + 1) + (4 + glance_steps s.items)
