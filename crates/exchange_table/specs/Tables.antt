-- How the fields of a table give its value, and what it opens with.
use Rattle.std.specs.Prelude.{◌≡◌, ℕ, zero, suc, List, [], ◌∷◌}
use Rattle.exchange_model.specs.Plans.{IsPlan, Plan}
use Rattle.exchange_model.specs.Words.{word_count}
use Rattle.exchange_calls.specs.declared.desk.Desk.{Desk}
use Rattle.exchange_opening.specs.Openings.{plan_of}
use Rattle.exchange_table.specs.declared.table.LastingTable.TheInside as table
use Rattle.exchange_table.specs.Parties.{PartyValue}
use Rattle.exchange_table.specs.Rule.{plain}
use Rattle.exchange_table.specs.Values.{TableValue, new_seat}

-- what contracts see of a table
abbrev pub table_value : table.Inside → TableValue
table_value t = record { table_id = t.board.shared.table_id; plan = plain t.board.shared.key }

-- what it was opened with is that of its words, of which there are as many as its plan says
pub record TableStands (t : table.Inside) : Type 0 where
  pub plan : IsPlan (plain t.opening)
  pub key : t.board.shared.key ≡ t.opening
  pub words : t.board.shared.table_id.words ≡ word_count (plain t.opening)

-- so many who can hold, from one on
abbrev pub new_seats : TableValue → (seat many : ℕ) → List PartyValue
new_seats t seat zero = []
new_seats t seat (suc many) = new_seat t seat ∷ new_seats t (suc seat) many

-- the plan of a table with this desk
abbrev pub plan_at : Desk → Plan
plan_at desk = plan_of desk.sizes desk.rules.hashing
