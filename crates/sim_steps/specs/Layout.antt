-- Where each word of a table lies: the root, an announcement and a done word for each seat, op rows and state rows.
-- Places count words from 0. A row is written once, by its seat alone, and is never used again.
use Rattle.std.specs.Prelude.{ℕ, ◌+◌, ◌*◌, ◌^◌, ◌<◌, ◌≤◌, List, length, take, sum, slice_index}
use Rattle.sim_steps.specs.declared.adds.Totals.{Totals}
use Rattle.sim_steps.specs.declared.words.Desk.{Desk}
use Rattle.sim_steps.specs.declared.words.Address.{Address}
use Rattle.sim_steps.specs.declared.words.Address.TheVariants.{Root, Announcement, Done, OpWord, StateWord}
use Rattle.sim_steps.specs.Totals.{AreSmall}

-- how many adds each seat may make, and the totals before any
pub record Settings : Type 0 where
  pub adds : List ℕ
  pub first : Totals

-- how many seats there are
abbrev pub seats_of : Settings → ℕ
seats_of settings = length settings.adds

-- how many adds a seat may make: none where there is no seat
abbrev pub room_of : Settings → ℕ → ℕ
room_of settings seat = slice_index settings.adds seat

-- 1 to 8 seats, fewer than 2 ^ 32 adds, and totals that leave room for them in a word
pub record AreSettings (settings : Settings) : Type 0 where
  pub some : 0 < seats_of settings
  pub few : seats_of settings ≤ 8
  pub rows : sum settings.adds < 2 ^ 32
  pub small : AreSmall settings.first

-- what a seat knows of its table
abbrev pub desk_of : Settings → ℕ → Desk
desk_of settings seat = record {
  seats = seats_of settings;
  rows = sum settings.adds;
  seat = seat;
  before = sum (take seat settings.adds);
}

-- an op row has three words, and a state row has so many: its base + 1, three counts, three numbers of bytes,
-- and of each seat its applied number and its reply
abbrev pub row_words : ℕ → ℕ
row_words seats = 7 + 2 * seats

-- the op row of a seat's next add, after so many; and the state row that it publishes next, after so many
unfoldable pub op_row : Desk → ℕ → ℕ
op_row desk number = desk.before + number

-- the number of a seat's own state row
unfoldable pub state_row : Desk → ℕ → ℕ
state_row desk made = 1 + (desk.before + made)

-- the addresses that there are, at so many seats and rows
abbrev pub IsAddress : ℕ → ℕ → Address → Type 0
IsAddress seats rows Root = Unit {0}
IsAddress seats rows (Announcement seat) = seat < seats
IsAddress seats rows (Done seat) = seat < seats
IsAddress seats rows (OpWord row i) = (row < rows) × (i < 3)
IsAddress seats rows (StateWord row i) = (row < 1 + rows) × (i < row_words seats)

-- the place of the word at an address
abbrev pub place : ℕ → ℕ → Address → ℕ
place seats rows Root = 0
place seats rows (Announcement seat) = 1 + seat
place seats rows (Done seat) = 1 + seats + seat
place seats rows (OpWord row i) = 1 + 2 * seats + (row * 3 + i)
place seats rows (StateWord row i) = 1 + 2 * seats + rows * 3 + (row * row_words seats + i)

-- how many words there are
abbrev pub words_of : ℕ → ℕ → ℕ
words_of seats rows = 1 + 2 * seats + rows * 3 + (1 + rows) * row_words seats
