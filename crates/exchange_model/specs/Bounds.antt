-- The most atomic steps that a call takes. An atomic step is one load, store, exchange, addition or subtraction of one
-- word. A number is the most that a table of these sizes takes: none grows with the depth, or with how many keys there
-- are.
use Rattle.std.specs.Prelude.{ℕ, ◌+◌, ◌-◌, ◌*◌}
use Rattle.step_counts.specs.declared.TheConstants.{ITEM_WORDS}
use Rattle.plain_map.specs.declared.calls.Call.TheVariants.{Lookup}
use Rattle.exchange_model.specs.Plans.{Sizes, holders_of}
use Rattle.exchange_model.specs.Codes.{SLOT_WORDS, row_length}
use Rattle.exchange_model.specs.Steps.{ALL_TRIES}
use Rattle.exchange_model.specs.Goes.{Asked, Called, Copied}

-- the words of a full row: the head, the items, and an entry for each seat
abbrev pub row_steps : Sizes → ℕ
row_steps s = row_length s.items s.seats

-- a scan: of each other who can hold the hold word, the wanted class, the word of its bucket, and the exchange that
-- gives it a row
abbrev pub scan_steps : Sizes → ℕ
scan_steps s = 4 * (holders_of s - 1)

-- a try: the bucket word, the row, the bucket word again, what is pending, of each other seat the announcement and the
-- op, the new row, and the exchange
abbrev pub try_steps : Sizes → ℕ
try_steps s = 1 + row_steps s + 1 + 1 + (1 + SLOT_WORDS) * (s.seats - 1) + row_steps s + 1

-- announcing: pending, the words of the op, and the announcement
abbrev pub announcing_steps : ℕ
announcing_steps = 1 + SLOT_WORDS + 1

-- taking a hold: the wanted class, the asking, the bucket word, and the exchange
abbrev pub hold_steps : ℕ
hold_steps = 4

-- the held look of an update: the hold, the head of the row, its entries, the reply, and giving the hold back
abbrev pub held_reply_steps : Sizes → ℕ
held_reply_steps s = hold_steps + 1 + s.seats + 1 + 1

-- the announcement is over, and pending falls
abbrev pub ending_steps : ℕ
ending_steps = 2

-- a whole update: a scan, a try that is not announced, the announcement, two tries, a held look, and the end
abbrev pub update_bound : Sizes → ℕ
update_bound s =
    scan_steps s + ALL_TRIES * try_steps s + announcing_steps + held_reply_steps s + ending_steps

-- the head and the items of a row with so many
abbrev pub glance_steps : (count : ℕ) → ℕ
glance_steps count = 1 + ITEM_WORDS * count

-- a whole lookup, or a copy of a bucket, by who can hold: two glances, each between two loads of the bucket word; and
-- the hold, a glance under it, and giving it back
abbrev pub look_bound : Sizes → ℕ
look_bound s = 2 * (1 + glance_steps s.items + 1) + (hold_steps + glance_steps s.items + 1)

-- the same by another reader, which gives up after so many glances
abbrev pub peek_bound : Sizes → (tries : ℕ) → ℕ
peek_bound s tries = tries * (1 + glance_steps s.items + 1)

-- the bound of a call of who can hold
abbrev pub call_bound : Sizes → Asked → ℕ
call_bound s (Called (Lookup key)) = look_bound s
call_bound s (Called call) = update_bound s
call_bound s (Copied bucket) = look_bound s
