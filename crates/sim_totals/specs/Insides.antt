-- How the fields give the values.
use Rattle.std.specs.Prelude.{◌≡◌, ℕ, ◌<◌, List, [], ◌∷◌, All}
use Rattle.sim_steps.specs.Layout.{Settings, AreSettings, desk_of, seats_of, words_of}
use Rattle.sim_steps.specs.Program.{Idle}
use Rattle.sim_steps.specs.World.{Event, AreSteps, world_after}
use Rattle.sim_steps.specs.Machine.{Machine}
use Rattle.sim_totals.specs.Rule.{Entry, view, one, plain, At, state_of, seen_of, M}
use Rattle.sim_totals.specs.Values.{AdderValue, TableValue, IsLeft, adders_of}
use Rattle.sim_totals.specs.declared.view.View.{View}
use Rattle.atomic_table.specs.declared.shared.Seat.{Seat}
use Rattle.sim_totals.specs.declared.adder.Adder.TheInside as adder
use Rattle.sim_totals.specs.declared.table.TotalsTable.TheInside as table

-- what an adder may do on the words
abbrev pub Token : Type 0
Token = Seat (Unit {0}) View

-- the machine of an idle seat
abbrev pub resting_machine : ℕ → M → Machine
resting_machine i m = record {
  desk = desk_of m.0.settings i;
  caller = (state_of m).caller;
  phase = (state_of m).phase;
  steps = (state_of m).steps;
}

-- an adder's value, by its fields
abbrev pub adder_value : adder.Inside → AdderValue
adder_value a = record {
  table_id = a.token.table_id;
  settings = a.token.me.0.settings;
  number = a.number;
  seat = state_of a.token.me;
  seen = seen_of a.token.me;
}

-- a machine stands where its seat does, between two adds
pub record Rests (i : ℕ) (m : M) (k : Machine) : Type 0 where
  pub seat : m ≡ (one m.0.settings i (state_of m) (seen_of m), [])
  pub at : At i m
  pub idle : (state_of m).phase ≡ Idle
  pub machine : k ≡ resting_machine i m

-- what always holds of an adder
pub record IsKept (a : adder.Inside) : Type 0 where
  pub rests : Rests a.number a.token.me a.machine
  pub desk : a.desk ≡ desk_of a.token.me.0.settings a.number

-- a table's value, by its fields
abbrev pub table_value : table.Inside → TableValue
table_value t = record { table_id = t.table.shared.table_id; settings = plain t.table.shared.key }

-- the table has the words that its settings ask for
pub record HasWords (t : table.Inside) : Type 0 where
  pub settings : AreSettings (plain t.table.shared.key)
  pub desk : t.desk ≡ desk_of (plain t.table.shared.key) 0
  pub words : t.table.shared.table_id.words ≡ words_of t.desk.seats t.desk.rows
  pub slots : t.table.shared.table_id.slots ≡ 0

-- the entries of some adders, and that a token has them all, in this order
abbrev pub entries : List AdderValue → List Entry
entries [] = []
entries (a ∷ adders) = (a.number, a.seat, a.seen) ∷ entries adders

-- these adders are some of the table's, and the token is of them all
pub record HasAll (t : TableValue) (adders : List AdderValue) (token : Token) : Type 0 where
  pub table : token.table_id ≡ t.table_id
  pub me : token.me ≡ (view t.settings (entries adders), [])

-- one list of steps leaves these words, and each seat to one of these adders
pub record Left (settings : Settings) (left : List ℕ) (adders : List AdderValue) : Type 0 where
  pub run : List Event
  pub steps : AreSteps settings run
  pub words : (world_after settings run).words ≡ left
  pub seats : All (IsLeft settings run) adders
  pub once : (seat : ℕ) → seat < seats_of settings → adders_of seat adders ≡ 1
