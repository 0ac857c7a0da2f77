-- How the fields of a table give its value, and what it opens with.
use Rattle.std.specs.Prelude.{◌≡◌, ℕ, zero, suc, List, [], ◌∷◌, length}
use Rattle.lasting_model.specs.Plans.{IsPlan, Plan}
use Rattle.lasting_model.specs.Words.{word_count}
use Rattle.lasting_model.specs.Worlds.{opening_store}
use Rattle.lasting_calls.specs.declared.desk.Desk.{Desk}
use Rattle.lasting_table.specs.declared.table.LastingTable.TheInside as table
use Rattle.lasting_table.specs.Parties.{PartyValue}
use Rattle.lasting_table.specs.Rule.{HasWords, plain}
use Rattle.lasting_table.specs.Values.{TableValue, new_seat}

-- what contracts see of a table
abbrev pub table_value : table.Inside → TableValue
table_value t = record { table_id = t.board.shared.table_id; plan = plain t.board.shared.key }

-- what it was opened with is that of its words, of which there are as many as its plan says
pub record TableStands (t : table.Inside) : Type 0 where
  pub plan : IsPlan (plain t.opening)
  pub key : t.board.shared.key ≡ t.opening
  pub words : t.board.shared.table_id.words ≡ word_count (plain t.opening)

-- the words of the opening
pub record IsOpened (plan : Plan) (words : List ℕ) : Type 0 where
  pub count : length words ≡ word_count plan
  pub are : HasWords plan words (opening_store plan)

-- so many seats from one on
abbrev pub new_seats : TableValue → (seat many : ℕ) → List PartyValue
new_seats t seat zero = []
new_seats t seat (suc many) = new_seat t seat ∷ new_seats t (suc seat) many

-- the plan of a table with this desk that opens without pairs
abbrev pub plan_at : Desk → Plan
plan_at desk = record { settings = desk.settings; hashing = desk.rules.hashing; first = []; rows = desk.rows }
