-- A token that has all these seats.
use Rattle.std.specs.Prelude.{◌≡◌, List, [], map, All}
use Rattle.table_model.specs.Shown.{Holding}
use Rattle.shared_table.specs.SeatValues.{SeatValue, IsIdle}
use Rattle.shared_table.specs.Values.{TableValue}
use Rattle.shared_table.specs.Calls.{Token}

-- what these seats hold
abbrev pub holdings : List SeatValue → List Holding
holdings seats = map (λ s. s.holding) seats

-- the token is of the table, and has all that these seats hold, of which none makes a call
pub record HasAll (t : TableValue) (seats : List SeatValue) (token : Token) : Type 0 where
  pub table : token.table_id ≡ t.table_id
  pub me : token.me ≡ (record { bundle = holdings seats; fronts = [] }, [])
  pub idle : All IsIdle seats
