-- What contracts see of an adder and of a table.
use Rattle.std.specs.Prelude.{◌≡◌, ℕ, zero, suc, ◌+◌, ◌<◌, ◌==◌, List, [], ◌∷◌, All, count_by, length, slice_index}
use Rattle.atomic_table.specs.Seated.{TableId}
use Rattle.sim_steps.specs.declared.adds.Added.{Added}
use Rattle.sim_steps.specs.declared.adds.Totals.{Totals}
use Rattle.sim_steps.specs.declared.words.Address.TheVariants.{Root, StateWord}
use Rattle.sim_steps.specs.Layout.{Settings, seats_of, room_of}
use Rattle.sim_steps.specs.Program.{Seat, resting}
use Rattle.sim_steps.specs.World.{Event, AreSteps, seat_in, world_after}
use Rattle.sim_steps.specs.Order.{Entry, word_at, order_of}
use Rattle.sim_steps.specs.Laws.{events_of}
use Rattle.sim_totals.specs.Rule.{StartsWith}

-- an adder: its table, its seat's number and state between two adds, with the list of what it has answered, and what
-- it has seen of the run
pub record AdderValue : Type 0 where
  pub table_id : TableId
  pub settings : Settings
  pub number : ℕ
  pub seat : Seat
  pub seen : List Event

-- what is known of a table that is open
pub record TableValue : Type 0 where
  pub table_id : TableId
  pub settings : Settings

-- what it has answered
abbrev pub log_of : AdderValue → List Added
log_of a = a.seat.log

-- what the adder has seen of the run leads to its state
pub record IsReached (a : AdderValue) : Type 0 where
  pub steps : AreSteps a.settings a.seen
  pub reached : seat_in (world_after a.settings a.seen) a.number ≡ a.seat

-- b has seen all that a had seen, and then n events of its own and any of others
pub record Sees (n : ℕ) (a b : AdderValue) : Type 0 where
  pub grows : StartsWith b.seen a.seen
  pub own : events_of a.number b.seen ≡ events_of a.number a.seen + n

-- the adder is one of the table's
pub record IsOf (t : TableValue) (a : AdderValue) : Type 0 where
  pub table : a.table_id ≡ t.table_id
  pub settings : a.settings ≡ t.settings
  pub inside : a.number < seats_of t.settings

-- the adder is one of the table's, and has answered nothing
pub record IsNew (t : TableValue) (a : AdderValue) : Type 0 where
  pub of : IsOf t a
  pub log : log_of a ≡ []

-- two adders of one seat with one record
pub record IsSame (a b : AdderValue) : Type 0 where
  pub table : b.table_id ≡ a.table_id
  pub settings : b.settings ≡ a.settings
  pub number : b.number ≡ a.number

-- the adder may make another add
abbrev pub HasRoom : AdderValue → Type 0
HasRoom a = length (log_of a) < room_of a.settings a.number

-- an adder of the table that has made no add, and so many from one seat on
abbrev pub fresh : TableValue → ℕ → AdderValue
fresh t i = record { table_id = t.table_id; settings = t.settings; number = i; seat = resting; seen = [] }

-- adders as they are handed out, from one seat on
abbrev pub fresh_from : TableValue → ℕ → ℕ → List AdderValue
fresh_from t i zero = []
fresh_from t i (suc n) = fresh t i ∷ fresh_from t (suc i) n

-- the run begins with what the adder has seen, has no more steps of its seat, and leaves the seat in its state
pub record IsLeft (settings : Settings) (run : List Event) (a : AdderValue) : Type 0 where
  pub seen : StartsWith run a.seen
  pub own : events_of a.number run ≡ events_of a.number a.seen
  pub state : seat_in (world_after settings run) a.number ≡ a.seat

-- how many of these adders are of a seat
abbrev pub adders_of : ℕ → List AdderValue → ℕ
adders_of seat adders = count_by (λ a. a.number == seat) adders

-- one list of steps from the opening has all that each adder has seen, and leaves each seat to one adder, and words
-- with these totals and this order
pub record Ran (settings : Settings) (totals : Totals) (order : List Entry) (adders : List AdderValue) : Type 0 where
  pub run : List Event
  pub steps : AreSteps settings run
  pub seats : All (IsLeft settings run) adders
  pub once : (seat : ℕ) → seat < seats_of settings → adders_of seat adders ≡ 1
  pub order_is : order ≡ order_of settings (world_after settings run).words
  pub counts : (class : ℕ) → class < 3 → (let words = (world_after settings run).words in
      slice_index totals.counts class ≡ word_at settings words (StateWord (word_at settings words Root) (1 + class)))
  pub bytes : (class : ℕ) → class < 3 → (let words = (world_after settings run).words in
      slice_index totals.bytes class ≡ word_at settings words (StateWord (word_at settings words Root) (4 + class)))
