-- The order of the adds, read from the words alone: along the state rows from the opening to the root's, the adds that
-- are new in each row, in seat order.
use Rattle.std.specs.Prelude.{ℕ, zero, suc, ◌+◌, ◌-◌, ◌*◌, ◌==◌, nat_lt, if◌then◌else◌, List, [], ◌∷◌, ◌++◌, map, sum, count_by, slice_index, slice_index_or}
use Rattle.sim_steps.specs.declared.adds.Add.{Add}
use Rattle.sim_steps.specs.declared.words.Address.{Address}
use Rattle.sim_steps.specs.declared.words.Address.TheVariants.{Root, StateWord}
use Rattle.sim_steps.specs.Layout.{Settings, seats_of, place}
use Rattle.sim_steps.specs.Program.{Seat}
use Rattle.sim_steps.specs.World.{World, seat_in}

-- an add by its seat and its number
abbrev pub Entry : Type 0
Entry = ℕ × ℕ

-- the word at an address, in a table of so many seats and rows
abbrev pub read_word : ℕ → ℕ → List ℕ → Address → ℕ
read_word seats rows words address = slice_index words (place seats rows address)

-- the applied number of a seat in a state row
abbrev pub read_applied : ℕ → ℕ → List ℕ → ℕ → ℕ → ℕ
read_applied seats rows words row seat = read_word seats rows words (StateWord row (7 + 2 * seat))

-- of so many seats from one on, the adds by which the applied numbers of one row differ from those of another
abbrev pub news : (ℕ → ℕ) → (ℕ → ℕ) → ℕ → ℕ → List Entry
news old new seat zero = []
news old new seat (suc more) = (if nat_lt (old seat) (new seat) then (seat, new seat) ∷ [] else [])
    ++ news old new (seat + 1) more

-- the order up to a state row: that of its base, and then what is new in it. At most so many rows have a base
abbrev pub read_order_to : ℕ → ℕ → List ℕ → ℕ → ℕ → List Entry
read_order_to seats rows words zero row = []
read_order_to seats rows words (suc more) row =
    let base = read_word seats rows words (StateWord row 0) in
    if base == 0 then []
    else read_order_to seats rows words more (base - 1)
    ++ news (read_applied seats rows words (base - 1)) (read_applied seats rows words row) 0 seats

-- the order read from a row on
abbrev pub read_order : ℕ → ℕ → List ℕ → List Entry
read_order seats rows words = read_order_to seats rows words rows (read_word seats rows words Root)

-- the same in a table of these settings
abbrev pub word_at : Settings → List ℕ → Address → ℕ
word_at settings words address = read_word (seats_of settings) (sum settings.adds) words address

-- the number that a row has of a seat
abbrev pub applied_at : Settings → List ℕ → ℕ → ℕ → ℕ
applied_at settings words row seat = read_applied (seats_of settings) (sum settings.adds) words row seat

-- the order up to a row, over at most so many rows
abbrev pub order_to : Settings → List ℕ → ℕ → ℕ → List Entry
order_to settings words more row = read_order_to (seats_of settings) (sum settings.adds) words more row

-- the order of all
abbrev pub order_of : Settings → List ℕ → List Entry
order_of settings words = read_order (seats_of settings) (sum settings.adds) words

-- the numbers of a seat's adds there, and how many they are
abbrev pub numbers_of : ℕ → List Entry → List ℕ
numbers_of seat [] = []
numbers_of seat (entry ∷ entries) = (if entry.0 == seat then entry.1 ∷ [] else []) ++ numbers_of seat entries

-- the adds of a seat in it
abbrev pub how_many : ℕ → List Entry → ℕ
how_many seat entries = count_by (λ entry. entry.0 == seat) entries

-- the numbers from 1 to n
abbrev pub up_to : ℕ → List ℕ
up_to zero = []
up_to (suc n) = up_to n ++ (n + 1) ∷ []

-- an add of a seat, by its number: one that has ended, or else the one that the seat is in
abbrev pub add_at : Seat → ℕ → Add
add_at seat number = slice_index_or (map (λ added. added.add) seat.log) (number - 1) seat.caller.add

-- its adds
abbrev pub adds_in : World → List Entry → List Add
adds_in world entries = map (λ entry. add_at (seat_in world entry.0) entry.1) entries
